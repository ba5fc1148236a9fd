use Rattle.zv_map.proofs.FixedLists.{spells_fixed}
use Rattle.zv_map.proofs.fixed.ZeroVecZeroVecLike.zvl_as_borrowed.Goals as goal

pub of_valid-requires-clause-spells : goal.of_valid-requires-clause-spells
of_valid-requires-clause-spells g c =
    rw c.size.ensures (spells_fixed g.met.T.AsULE.kind c.as_bytes.result.now c.all_read.ensures.width c.as_bytes.ensures.spells)
