use Rattle.zv_ule.proofs.Common.{◌≡◌, ◌%◌, length, niche_fault, first_fault, chunks_of}
use Rattle.zv_ule.proofs.fixed.niche.NichedOptionULEULE.check_chunks.Given as goal

abbrev pub invariant-loop-rest : goal.invariant-loop-rest
invariant-loop-rest g l = record {
  whole : length l.rest % l.width ≡ 0;
  same : first_fault (niche_fault g.U.NicheBytes.NICHE_BIT_PATTERN g.U.ULE.chunk_fault) (chunks_of l.width l.rest) ≡ first_fault
      (niche_fault g.U.NicheBytes.NICHE_BIT_PATTERN g.U.ULE.chunk_fault) (chunks_of l.width l.initial.rest);
}

abbrev pub decreases-loop-rest : goal.decreases-loop-rest
decreases-loop-rest g l = length l.rest
