use Rattle.zv_ule.proofs.Common.{◌≡◌, is_none, ◌&&◌, first_fault, chunks}
use Rattle.zv_ule.proofs.CharBlocks.{rest_good}
use Rattle.zv_ule.specs.Chars.{char_fault}
use Rattle.zv_ule.proofs.fixed.chars.is_good_block.Given as goal

-- all chunks are good where those looked at are and the rest are
abbrev pub invariant-loop-index : goal.invariant-loop-index
invariant-loop-index l = (l.good && rest_good l.bytes l.index) ≡ is_none (first_fault char_fault (chunks 3 16 l.bytes))
