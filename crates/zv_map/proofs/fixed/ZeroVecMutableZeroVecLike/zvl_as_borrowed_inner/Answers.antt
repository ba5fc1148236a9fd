use Rattle.zv_map.proofs.FixedLists.{spells_fixed}
use Rattle.zv_map.proofs.fixed.ZeroVecMutableZeroVecLike.zvl_as_borrowed_inner.Goals as goal

pub returns-clause-spells : goal.returns-clause-spells
returns-clause-spells g c = rw c.size.ensures (spells_fixed g.met.T.AsULE.kind c.as_bytes.result.now c.all_read.ensures.width c.as_bytes.ensures.spells)
