use Rattle.zv_ule.proofs.Common.{◌<◌, get_or, ◌∙◌, arith}
use Rattle.zv_ule.proofs.CharBlocks.{block_step, block_end}
use Rattle.zv_ule.proofs.fixed.chars.is_good_block.Goals as goal

pub loop-index-preserved : goal.loop-index-preserved
loop-index-preserved c =
    let low : get_or c.args.bytes.now c.loop-index.index 0 < 256 = omega (arith, c.type_inv.bytes c.loop-index.index) in
    block_step _ _ c.loop-index.good _ c.loop-index-test.true c.requires (c.ends_character-ends.ensures _ low) ∙ c.loop-index.invariant

pub returns : goal.returns
returns c = block_end c.args.bytes.now c.loop-index.index c.loop-index.good _ (omega arith) c.loop-index.invariant
