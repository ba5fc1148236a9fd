use Rattle.zv_owned.proofs.Common.{arith}
use Rattle.zv_owned.proofs.Rewritten.{listed}
use Rattle.zv_owned.proofs.widths.count_of.Goals as goal

pub returns-clause-len : goal.returns-clause-len
returns-clause-len g c = λ some.
    let f = g.F.VarZeroVecFormat in
    let list = c.of_valid.result in
    let is = listed f.W g.T.ZvKind.fault list.bytes.now f.width_positive list.each list.spells in
    rw (c.len.ensures, ← c.of_valid.ensures.bytes) (is.long (omega (arith, some, c.len.ensures)))
