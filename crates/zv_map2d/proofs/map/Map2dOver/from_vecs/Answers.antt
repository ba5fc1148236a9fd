use Rattle.zv_map2d.proofs.Common.{sym}
use Rattle.zv_map2d.proofs.Parsed.{held_lists}
use Rattle.zv_map2d.proofs.map.Map2dOver.from_vecs.Goals as goal

pub invariant_of-result : goal.invariant_of-result
invariant_of-result g c =
    let held = held_lists _ _ g.met.K0.ZvOrd.total g.met.K1.ZvOrd.total _ (sym c.in_ok-check_lists.ensures.error) in
    record { keys0 = c.requires.keys0; keys1 = c.requires.keys1; values = c.requires.values; flat = held.0; well = held.1 }

pub returns-clause-well : goal.returns-clause-well
returns-clause-well g c = (invariant_of-result g c).well
