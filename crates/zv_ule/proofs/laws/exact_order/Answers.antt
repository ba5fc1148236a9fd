use Rattle.zv_ule.proofs.Common.{ap, sym, ◌∙◌}
use Rattle.zv_ule.proofs.ChunkFaults.{kind_chunk}
use Rattle.zv_ule.proofs.Exact.{through_twin}
use Rattle.zv_ule.proofs.laws.exact_order.Goals as goal

pub returns : goal.returns
returns g c a b bytes_a bytes_b good_a good_b equal =
    let s = through_twin g.met.T.AsULE.twin g.met.T.ULE.ULE.spelling in
    let p = kind_chunk g.met.T.AsULE.kind a bytes_a good_a in
    let q = kind_chunk g.met.T.AsULE.kind b bytes_b good_b in
    let same = c.requires (g.T.AsULE.loaded (g.T.ULE.ULE.value a)) (g.T.AsULE.loaded (g.T.ULE.ULE.value b)) (s.reads a p) (s.reads b q) equal in
    sym (s.again a p) ∙ ap (λ v. g.T.ULE.ULE.chunk (g.T.AsULE.stored v)) same ∙ s.again b q
