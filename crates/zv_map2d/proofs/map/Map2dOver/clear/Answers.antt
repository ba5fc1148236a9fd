use Rattle.zv_map2d.proofs.Common.{rules, refl}
use Rattle.zv_map2d.proofs.Seen.{columns, none, view_of}
use Rattle.zv_map2d.proofs.Well.{none_well}
use Rattle.zv_map2d.proofs.map.Map2dOver.clear.Goals as goal

pub invariant_of-self : goal.invariant_of-self
invariant_of-self g c =
    columns c.self.invariant (none c.zvl_clear.ensures.list c.remove_all.ensures.values c.zvl_clear-2.ensures.list c.zvl_clear-3.ensures.list)
    (none_well g.K0.ZvOrd.cmp g.K1.ZvOrd.cmp refl)

pub returns-clause-rows : goal.returns-clause-rows
returns-clause-rows g c = view_of (none c.zvl_clear.ensures.list c.remove_all.ensures.values c.zvl_clear-2.ensures.list c.zvl_clear-3.ensures.list)

pub returns-clause-room : goal.returns-clause-room
returns-clause-room g c = rw (← c.self.view_is) (search rules)
