use Rattle.zv_map1.proofs.Common.{arith}
use Rattle.zv_map1.proofs.Appended.{ends, gap_at_end}
use Rattle.zv_map1.proofs.Zipped.{ascend}
use Rattle.zv_map1.proofs.map.MapOver.is_above.Goals as goal

pub returns-in-Some-clause-gap : goal.returns-in-Some-clause-gap
returns-in-Some-clause-gap g c = λ yes.
    gap_at_end g.met.K.ZvOrd.total _ _ (ascend c.self.view_is c.self.invariant) (grind (arith, ends, g.met.K.ZvOrd.total))

pub returns-in-None-clause-gap : goal.returns-in-None-clause-gap
returns-in-None-clause-gap g c = λ yes. gap_at_end g.met.K.ZvOrd.total _ _ (ascend c.self.view_is c.self.invariant) (grind (arith, ends))
