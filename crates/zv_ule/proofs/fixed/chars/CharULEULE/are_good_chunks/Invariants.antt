use Rattle.zv_ule.proofs.Common.{◌≡◌, ◌-◌, ◌*◌, ◌≤◌, length, is_none, ◌&&◌, first_fault, chunks, chunks_of}
use Rattle.zv_ule.specs.Chars.{char_fault}
use Rattle.zv_ule.proofs.fixed.chars.CharULEULE.are_good_chunks.Given as goal

-- the whole is good where the blocks read so far are and the rest is
abbrev pub invariant-loop-rest : goal.invariant-loop-rest
invariant-loop-rest l = (l.good && is_none (first_fault char_fault (chunks_of 3 l.rest))) ≡ is_none (first_fault char_fault (chunks_of 3 l.bytes))

abbrev pub decreases-loop-rest : goal.decreases-loop-rest
decreases-loop-rest l = length l.rest

-- and where the chunks after the blocks are
abbrev pub invariant-loop-index : goal.invariant-loop-index
invariant-loop-index l = record {
  left : 3 * (l.index-end - l.index) ≤ length l.rest;
  same : (l.good && is_none (first_fault char_fault (chunks 3 (l.index-end - l.index) l.rest))) ≡ is_none (first_fault char_fault (chunks_of 3 l.bytes));
}
