use Rattle.zv_map2d.proofs.Common.{rules}
use Rattle.zv_map2d.proofs.Seen.{columns, same_lists}
use Rattle.zv_map2d.proofs.map.Map2dOver.clone.Goals as goal

pub invariant_of-result : goal.invariant_of-result
invariant_of-result g c =
    columns c.self.invariant
    (same_lists c.in_ok-keys0.ensures.list c.in_ok-joiner.ensures.values c.in_ok-keys1.ensures.list c.in_ok-values.ensures.list c.self.invariant.flat)
    c.self.invariant.well

pub returns : goal.returns
returns g c = rw (← c.self.view_is) (search rules)
