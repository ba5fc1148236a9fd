use Rattle.zv_map1.proofs.Zipped.{columns_with, pairs_inserted}
use Rattle.zv_map1.proofs.map.MapOver.add_reserved.Goals as goal

pub invariant_of-self : goal.invariant_of-self
invariant_of-self g c =
    columns_with c.self.view_is c.self.invariant g.met.K.ZvOrd.total _ (g.Q.ZvArg.bytes c.args.key.now) (g.R.ZvArg.bytes c.args.value.now) c.requires.gap
    c.zvl_insert_reserved.ensures.list c.zvl_insert_reserved-2.ensures.list

pub returns-clause-pairs : goal.returns-clause-pairs
returns-clause-pairs g c =
    pairs_inserted c.self.view_is c.self.invariant g.met.K.ZvOrd.total _ _ _ c.requires.gap
    c.zvl_insert_reserved.ensures.list c.zvl_insert_reserved-2.ensures.list
