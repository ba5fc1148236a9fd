use Rattle.zv_ule.proofs.Common.{◌<◌, ◌∙◌, sym}
use Rattle.zv_ule.proofs.ChunkFaults.{width_pos, whole_fault}
use Rattle.zv_ule.proofs.Exact.{exact, only, one_chunk, uneven, first}
use Rattle.zv_ule.proofs.laws.stored_lists.Goals as goal

pub returns : goal.returns
returns g c =
    let s = g.met.U.ULE.spelling in
    let w = g.U.ULE.width in
    let fault = g.U.ULE.chunk_fault in
    let pos : 0 < w = width_pos w c.requires in
    record {
      exact = exact s g.U.ULE.TY pos;
      only = only s pos;
      chunk = s.writes;
      back = s.back;
      one_chunk = one_chunk s;
      uneven = uneven g.U.ULE.TY w fault;
      first = λ b e whole h. first fault _ e (sym (whole_fault g.U.ULE.TY w fault b whole) ∙ h);
    }
