use Rattle.zv_ule.proofs.Common.{◌<◌, ◌≤◌, length, arith, ap, sym, ◌∙◌, err_from_is_err_and, result_err}
use Rattle.zv_ule.proofs.ChunkFaults.{width_pos, stops}
use Rattle.zv_ule.proofs.element.ULE.check_chunks.Goals as goal

pub returns-in_err-check_chunk : goal.returns-in_err-check_chunk
returns-in_err-check_chunk g c =
    let p = err_from_is_err_and c.from_residual.result c.from_residual.ensures.1 in
    let pos : 0 < c.size-width.result = rw c.size-width.ensures (width_pos _ c.requires.usable) in
    let long : c.size-width.result ≤ length c.loop-rest.rest.now = omega (arith, c.split_at.ensures.back_len) in
    let bad = ap result_err (sym (c.in_err-check_chunk.was)) ∙ c.check_chunk.ensures ∙ ap g.Self.ULE.chunk_fault c.split_at.ensures.front in
    rw (p.1, p.2, ← c.size-width.ensures) (stops _ _ _ _ _ pos long c.loop-rest.invariant.same bad)
