use Rattle.zv_map2d.proofs.Common.{rules, refl}
use Rattle.zv_map2d.proofs.Seen.{columns, same_lists, seen, seen_well, view_of}
use Rattle.zv_map2d.proofs.map.Map2dOver.settle.Goals as goal

pub invariant_of-self : goal.invariant_of-self
invariant_of-self g c =
    columns c.self.invariant (same_lists c.zvl_settle.ensures.list refl c.zvl_settle-2.ensures.list c.zvl_settle-3.ensures.list
    (seen c.self.view_is c.self.invariant)) (seen_well c.self.view_is c.self.invariant)

pub returns-clause-rows : goal.returns-clause-rows
returns-clause-rows g c =
    view_of (same_lists c.zvl_settle.ensures.list refl c.zvl_settle-2.ensures.list c.zvl_settle-3.ensures.list (seen c.self.view_is c.self.invariant))

pub returns-clause-layouts : goal.returns-clause-layouts
returns-clause-layouts g c =
    let s = seen c.self.view_is c.self.invariant in record {
      keys0 = rw (returns-clause-rows g c, ← s.firsts_are) c.zvl_settle.ensures.layout;
      keys1 = rw (returns-clause-rows g c, ← s.seconds_are) c.zvl_settle-2.ensures.layout;
      values = rw (returns-clause-rows g c, ← s.values_are) c.zvl_settle-3.ensures.layout;
    }

pub returns-clause-room : goal.returns-clause-room
returns-clause-room g c = rw (← c.self.view_is) (search rules)
