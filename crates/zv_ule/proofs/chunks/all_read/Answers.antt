use Rattle.zv_ule.proofs.Common.{arith, IsBytes}
use Rattle.zv_ule.proofs.Exact.{through_twin}
use Rattle.zv_ule.proofs.Lists.{read_list}
use Rattle.zv_ule.proofs.chunks.all_read.Goals as goal

pub returns : goal.returns
returns g c =
    let each : IsBytes c.args.bytes.now = record { at = λ i. omega (arith, c.type_inv.bytes i) } in
    let r = read_list (through_twin g.met.T.AsULE.twin g.met.T.ULE.ULE.spelling) g.T.ULE.ULE.TY c.args.bytes.now each c.requires.spells in
    record { values = r.values; joined = r.joined }
