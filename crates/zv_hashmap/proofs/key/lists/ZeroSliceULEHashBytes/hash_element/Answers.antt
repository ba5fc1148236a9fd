use Rattle.zv_hashmap.proofs.Common.{arith, IsBytes}
use Rattle.zv_ule.proofs.Exact.{through_twin}
use Rattle.zv_ule.proofs.Lists.{read_list}
use Rattle.zv_hashmap.proofs.key.lists.ZeroSliceULEHashBytes.hash_element.Goals as goal

pub returns : goal.returns
returns g c =
    let s = through_twin g.met.T.AsULE.twin g.met.T.ULE.ULE.spelling in
    let each : IsBytes c.args.element.now = record { at = λ i. omega (arith, c.type_inv.element i) } in
    rw (read_list s g.T.ULE.ULE.TY c.args.element.now each c.requires.spells).joined c.write.ensures
