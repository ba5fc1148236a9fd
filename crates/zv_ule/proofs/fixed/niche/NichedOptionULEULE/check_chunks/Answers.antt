use Rattle.zv_ule.proofs.Common.{◌<◌, ◌≤◌, length, arith, ap, sym, ◌∙◌, length-drop, common_steps, err_from_is_err_and, result_err, niche_fault}
use Rattle.zv_ule.proofs.ChunkFaults.{width_pos, first_chunk, whole_after, stops, goes_on}
use Rattle.zv_ule.proofs.fixed.niche.NichedOptionULEULE.check_chunks.Goals as goal

pub split_at-requires : goal.split_at-requires
split_at-requires g c = first_chunk _ _ c.loop-rest.invariant.whole (grind (arith, common_steps))

pub returns-in_err-check_chunk : goal.returns-in_err-check_chunk
returns-in_err-check_chunk g c =
    let p = err_from_is_err_and c.from_residual.result c.from_residual.ensures.1 in
    let pos : 0 < c.size-width.result = rw c.size-width.ensures (width_pos _ c.requires.usable) in
    let long : c.size-width.result ≤ length c.loop-rest.rest.now = omega (arith, c.split_at.ensures.back_len) in
    let bad = ap result_err (sym (c.in_err-check_chunk.was)) ∙ c.check_chunk.ensures ∙
    ap (niche_fault g.U.NicheBytes.NICHE_BIT_PATTERN g.U.ULE.chunk_fault) c.split_at.ensures.front in
    rw (p.1, p.2, ← c.size-width.ensures) (stops _ _ _ _ _ pos long c.loop-rest.invariant.same bad)

pub loop-rest-preserved : goal.loop-rest-preserved
loop-rest-preserved g c =
    let pos : 0 < c.size-width.result = rw c.size-width.ensures (width_pos _ c.requires.usable) in
    let long : c.size-width.result ≤ length c.loop-rest.rest.now = omega (arith, c.split_at.ensures.back_len) in
    record {
      whole = rw c.split_at.ensures.back (rw length-drop (whole_after _ _ long c.loop-rest.invariant.whole));
      same = rw c.split_at.ensures.back
          (goes_on _ _ _ pos long (ap result_err (sym (c.in_ok-check_chunk.was)) ∙ c.check_chunk.ensures ∙
          ap (niche_fault g.U.NicheBytes.NICHE_BIT_PATTERN g.U.ULE.chunk_fault) c.split_at.ensures.front) ∙ c.loop-rest.invariant.same);
    }
