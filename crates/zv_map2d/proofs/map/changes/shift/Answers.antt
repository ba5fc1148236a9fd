use Rattle.zv_map2d.proofs.Common.{arith}
use Rattle.zv_map2d.proofs.Splices.{shifted}
use Rattle.zv_map2d.proofs.map.changes.shift.Goals as goal

pub returns-clause-values : goal.returns-clause-values
returns-clause-values c =
    let l = c.loop-row.invariant in
    shifted _ _ _ _ _ l.size l.low (λ k a b. l.done k a (omega (arith, b, l.size, c.loop-row-test.false, c.len-row-end.ensures)) b)
