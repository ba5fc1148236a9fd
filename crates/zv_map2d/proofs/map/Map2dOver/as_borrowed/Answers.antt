use Rattle.zv_map2d.proofs.Seen.{same_lists, seen, seen_well, view_of, views}
use Rattle.zv_map2d.proofs.map.Map2dOver.as_borrowed.Goals as goal

pub invariant_of-result : goal.invariant_of-result
invariant_of-result g c =
    let flat = same_lists c.zvl_as_borrowed.ensures.list c.as_slice.ensures.values c.zvl_as_borrowed-2.ensures.list c.zvl_as_borrowed-3.ensures.list
    (seen c.self.view_is c.self.invariant) in
    let both = views g.K0.ZvOrd.cmp g.K1.ZvOrd.cmp flat (seen_well c.self.view_is c.self.invariant) in
    record { flat = both.0; well = both.1 }

pub returns-clause-rows : goal.returns-clause-rows
returns-clause-rows g c =
    view_of (same_lists c.zvl_as_borrowed.ensures.list c.as_slice.ensures.values c.zvl_as_borrowed-2.ensures.list c.zvl_as_borrowed-3.ensures.list
    (seen c.self.view_is c.self.invariant))
