use Rattle.zv_map2d.proofs.Common.{refl, ap, numbers}
use Rattle.zv_map2d.proofs.Seen.{none, view_of, views}
use Rattle.zv_map2d.proofs.Well.{none_well}
use Rattle.zv_map2d.proofs.borrowed.ZeroMap2dBorrowed.new.Goals as goal

pub invariant_of-result : goal.invariant_of-result
invariant_of-result g c =
    let flat = none c.zvl_new_borrowed.ensures.list (ap numbers c.new_empty.ensures) c.zvl_new_borrowed-2.ensures.list c.zvl_new_borrowed-3.ensures.list in
    let both = views g.K0.ZvOrd.cmp g.K1.ZvOrd.cmp flat (none_well g.K0.ZvOrd.cmp g.K1.ZvOrd.cmp refl) in
    record { flat = both.0; well = both.1 }

pub returns : goal.returns
returns g c =
    view_of (none c.zvl_new_borrowed.ensures.list (ap numbers c.new_empty.ensures) c.zvl_new_borrowed-2.ensures.list c.zvl_new_borrowed-3.ensures.list)
