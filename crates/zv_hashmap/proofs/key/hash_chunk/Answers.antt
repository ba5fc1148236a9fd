use Rattle.zv_hashmap.proofs.Common.{arith, IsBytes}
use Rattle.zv_ule.proofs.ChunkFaults.{kind_chunk}
use Rattle.zv_ule.proofs.Exact.{through_twin}
use Rattle.zv_hashmap.proofs.key.hash_chunk.Goals as goal

pub returns : goal.returns
returns g c =
    let s = through_twin g.met.T.AsULE.twin g.met.T.ULE.ULE.spelling in
    let each : IsBytes c.args.element.now = record { at = λ i. omega (arith, c.type_inv.element i) } in
    rw (s.again c.args.element.now (kind_chunk g.met.T.AsULE.kind c.args.element.now each c.requires.spells)) c.write.ensures
