use Rattle.zv_ule.proofs.Common.{◌≡◌, ◌+◌, ◌-◌, ◌/◌, ◌≤◌, length, ◌∙◌, arith}
use Rattle.zv_ule.proofs.CharBlocks.{block_more}
use Rattle.zv_ule.proofs.ChunkFaults.{good_more}
use Rattle.zv_ule.specs.Chars.{char_fault}
use Rattle.zv_ule.proofs.fixed.chars.CharULEULE.are_good_chunks.Goals as goal

pub loop-rest-preserved : goal.loop-rest-preserved
loop-rest-preserved c =
    let long : 50 ≤ length c.loop-rest.rest.now = omega arith in
    block_more c.loop-rest.rest.now _ c.loop-rest.good _ long c.split_at.ensures.back c.is_good_block-good.ensures ∙ c.loop-rest.invariant

pub loop-index-preserved : goal.loop-index-preserved
loop-index-preserved c =
    let cut = c.split_at-in-loop-index.ensures in
    let one : length c.loop-rest.rest.now / 3 - c.loop-index.index ≡ length c.loop-rest.rest.now / 3 - (c.loop-index.index + 1) + 1 = omega arith in
    record {
      left = omega (arith, c.loop-index.invariant.left, cut.back_len);
      same = good_more 3 _ _ char_fault _ _ _ c.loop-index.good _ one cut.front cut.back c.is_good_chunk-good.ensures ∙ c.loop-index.invariant.same;
    }
