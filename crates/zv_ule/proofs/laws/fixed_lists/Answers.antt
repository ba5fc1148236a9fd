use Rattle.zv_ule.proofs.Common.{◌<◌, ◌∙◌, sym, subst, IsTrue}
use Rattle.zv_ule.proofs.ChunkFaults.{width_pos, whole_fault}
use Rattle.zv_ule.proofs.Exact.{through_twin, exact, only, one_chunk, uneven, first}
use Rattle.zv_ule.proofs.laws.fixed_lists.Goals as goal

pub returns : goal.returns
returns g c =
    let s = through_twin g.met.T.AsULE.twin g.met.T.ULE.ULE.spelling in
    let w = g.T.ULE.ULE.width in
    let pos : 0 < w = width_pos w (subst IsTrue g.met.T.AsULE.kind.widths c.requires) in
    record {
      exact = exact s g.T.ULE.ULE.TY pos;
      only = only s pos;
      chunk = s.writes;
      back = s.back;
      one_chunk = one_chunk s;
      uneven = uneven g.T.ULE.ULE.TY w g.T.ULE.ULE.chunk_fault;
      first = λ b e whole h. first g.T.ULE.ULE.chunk_fault _ e (sym (whole_fault g.T.ULE.ULE.TY w g.T.ULE.ULE.chunk_fault b whole) ∙ h);
    }
