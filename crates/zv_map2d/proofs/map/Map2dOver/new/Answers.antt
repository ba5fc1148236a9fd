use Rattle.zv_map2d.proofs.Common.{refl}
use Rattle.zv_map2d.proofs.Seen.{none, views}
use Rattle.zv_map2d.proofs.Well.{none_well}
use Rattle.zv_map2d.proofs.map.Map2dOver.new.Goals as goal

pub invariant_of-result : goal.invariant_of-result
invariant_of-result g c =
    let flat = none c.zvl_new.ensures.list c.new.ensures.values c.zvl_new-2.ensures.list c.zvl_new-3.ensures.list in
    let both = views g.K0.ZvOrd.cmp g.K1.ZvOrd.cmp flat (none_well g.K0.ZvOrd.cmp g.K1.ZvOrd.cmp refl) in
    record { keys0 = c.requires.keys0; keys1 = c.requires.keys1; values = c.requires.values; flat = both.0; well = both.1 }
