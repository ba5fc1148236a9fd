use Rattle.zv_ule.proofs.Common.{◌≡◌, ℕ, ◌+◌, ◌-◌, ◌/◌, length, arith, ◌∙◌, niche_fault}
use Rattle.zv_ule.proofs.ChunkFaults.{good_more, mul_step}
use Rattle.zv_ule.proofs.fixed.niche.NichedOptionULEULE.are_good_chunks.Goals as goal

pub loop-index-preserved : goal.loop-index-preserved
loop-index-preserved g c =
    let w = c.size-width.result in
    let n : ℕ = length c.args.bytes.now / w in
    let i = c.loop-index.index in
    let more : n - i ≡ n - (i + 1) + 1 = omega arith in
    let parts = c.split_at.ensures in
    let next = good_more w (n - i) (n - (i + 1))
    (niche_fault g.U.NicheBytes.NICHE_BIT_PATTERN g.U.ULE.chunk_fault) c.loop-index.rest.now c.split_at.result.0.now c.split_at.result.1.now
    c.loop-index.good c.is_good_chunk-good.result more parts.front parts.back c.is_good_chunk-good.ensures in
    record {
      left = omega (arith, mul_step w _ _ more);
      same = next ∙ c.loop-index.invariant.same;
    }
