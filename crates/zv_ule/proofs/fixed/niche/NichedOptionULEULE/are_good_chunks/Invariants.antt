use Rattle.zv_ule.proofs.Common.{◌≡◌, ◌-◌, ◌*◌, ◌≤◌, length, is_none, ◌&&◌, niche_fault, first_fault, chunks}
use Rattle.zv_ule.proofs.fixed.niche.NichedOptionULEULE.are_good_chunks.Given as goal

-- the whole is good where what was read is and the rest are
abbrev pub invariant-loop-index : goal.invariant-loop-index
invariant-loop-index g l = record {
  left : l.width * (l.index-end - l.index) ≤ length l.rest;
  same : (l.good && is_none (first_fault (niche_fault g.U.NicheBytes.NICHE_BIT_PATTERN g.U.ULE.chunk_fault) (chunks l.width (l.index-end - l.index) l.rest))) ≡
      is_none (first_fault (niche_fault g.U.NicheBytes.NICHE_BIT_PATTERN g.U.ULE.chunk_fault) (chunks l.width l.index-end l.bytes));
}
