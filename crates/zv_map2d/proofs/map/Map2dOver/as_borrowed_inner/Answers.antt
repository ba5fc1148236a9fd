use Rattle.zv_map2d.proofs.Seen.{same_lists, seen, seen_well, views}
use Rattle.zv_map2d.proofs.map.Map2dOver.as_borrowed_inner.Goals as goal

pub invariant_of-result : goal.invariant_of-result
invariant_of-result g c =
    let flat = same_lists c.in_ok-keys0.ensures.list c.in_ok-joiner.ensures.2 c.in_ok-keys1.ensures.list c.in_ok-values.ensures.list
    (seen c.self.view_is c.self.invariant) in
    let both = views g.K0.ZvOrd.cmp g.K1.ZvOrd.cmp flat (seen_well c.self.view_is c.self.invariant) in
    record { flat = both.0; well = both.1 }
