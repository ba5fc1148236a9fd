use Rattle.zv_map2d.proofs.Seen.{seen, seen_well}
use Rattle.zv_map2d.proofs.map.Map2dOver.in_order.Goals as goal

pub returns-clause-ascending : goal.returns-clause-ascending
returns-clause-ascending g c = seen_well c.self.view_is c.self.invariant

pub returns-clause-keys : goal.returns-clause-keys
returns-clause-keys g c =
    let flat = seen c.self.view_is c.self.invariant in record {
      firsts = rw (← flat.firsts_are, ← c.zvl_as_borrowed.ensures.list) c.elements_are_valid.ensures;
      seconds = rw (← flat.seconds_are, ← c.zvl_as_borrowed-2.ensures.list) c.elements_are_valid-2.ensures;
    }
