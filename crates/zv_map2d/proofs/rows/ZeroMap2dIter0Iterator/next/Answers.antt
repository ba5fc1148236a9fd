use Rattle.zv_map2d.proofs.Common.{length, ap, arith}
use Rattle.zv_map2d.proofs.RowIters.{seen_next}
use Rattle.zv_map2d.proofs.rows.ZeroMap2dIter0Iterator.next.Goals as goal

pub returns-clause-steps : goal.returns-clause-steps
returns-clause-steps g c = rw c.cursor.ensures (seen_next _ c.args.self.now.next c.args.self.now.end (omega arith))

pub returns-clause-goes : goal.returns-clause-goes
returns-clause-goes g c =
    let less = ap length (returns-clause-steps g c) in
    record { on = λ finite. (tt, finite, omega (arith, less)); keeps = tt; rests = λ finite. tt }
