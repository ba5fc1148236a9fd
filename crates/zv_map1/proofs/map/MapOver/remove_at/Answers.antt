use Rattle.zv_map1.proofs.Zipped.{columns_without}
use Rattle.zv_map1.proofs.map.MapOver.remove_at.Goals as goal

pub invariant_of-self : goal.invariant_of-self
invariant_of-self g c =
    columns_without c.self.view_is c.self.invariant g.met.K.ZvOrd.total _ c.requires.at c.zvl_discard.ensures.list c.zvl_discard-2.ensures.list
