use Rattle.zv_owned.proofs.Common.{Part_from_fault, arith, length, list_of, ◌<◌, ◌∙◌, ◌≡◌, sym}
use Rattle.std.proofs.lemmas.Bool.Decides.{nat_tests}
use Rattle.std.proofs.lemmas.List.{nil_from_length}
use Rattle.zv_owned.proofs.Rewritten.{encoded}
use Rattle.zv_owned.proofs.vector.VarZeroVec.trim.Goals as goal

pub returns-then-is_empty-clause-list : goal.returns-then-is_empty-clause-list
returns-then-is_empty-clause-list g c =
    let none : length (list_of c.as_slice.result) ≡ 0 = grind (arith, nat_tests) in
    c.clear.ensures.list ∙ sym (sym c.as_slice.ensures.list ∙ nil_from_length (list_of c.as_slice.result) none)

pub returns-else-is_empty-clause-bytes : goal.returns-else-is_empty-clause-bytes
returns-else-is_empty-clause-bytes g c =
    let f = g.F.VarZeroVecFormat in
    let list = c.as_slice.result in
    let some : 0 < length (list_of list) = grind (arith, nat_tests) in
    let part = Part_from_fault f.W g.T.ZvKind.fault list.bytes.now f.width_positive list.each list.spells in
    rw (← c.as_slice.ensures.bytes, ← c.as_slice.ensures.list) (encoded f.W list.bytes.now (list_of list) part some)
