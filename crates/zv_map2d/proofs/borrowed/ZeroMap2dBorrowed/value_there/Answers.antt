use Rattle.zv_map2d.proofs.Common.{sym, ◌∙◌, rows_in}
use Rattle.zv_map2d.proofs.Places.{find_is, find_pair, nothing_there, pair_there}
use Rattle.zv_map2d.proofs.borrowed.ZeroMap2dBorrowed.value_there.Goals as goal

pub value_at-requires : goal.value_at-requires
value_at-requires g c =
    let there = pair_there g.K0.ZvOrd.cmp g.K1.ZvOrd.cmp _ _ _ _ _ (rw c.in-Pair.is at c.requires) in record { row = there.0; pair = there.1 }

pub returns-in-Pair : goal.returns-in-Pair
returns-in-Pair g c =
    c.value_at.ensures ∙ sym (find_pair g.met.K0.ZvOrd.total g.met.K1.ZvOrd.total _ _ _ _ _ (rw c.in-Pair.is at c.requires))

pub returns-in_default : goal.returns-in_default
returns-in_default g c =
    sym (find_is g.met.K0.ZvOrd.total g.met.K1.ZvOrd.total _ _ _ _ c.requires ∙ nothing_there (rows_in c.args.self.now) _ c.in_default.not-Pair)
