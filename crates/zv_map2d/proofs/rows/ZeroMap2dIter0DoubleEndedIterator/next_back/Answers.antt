use Rattle.zv_map2d.proofs.Common.{length, ◌∙◌, ap, arith, length_push}
use Rattle.zv_map2d.proofs.RowIters.{seen_last}
use Rattle.zv_map2d.proofs.rows.ZeroMap2dIter0DoubleEndedIterator.next_back.Goals as goal

pub returns-clause-steps : goal.returns-clause-steps
returns-clause-steps g c = rw c.cursor.ensures (seen_last _ c.args.self.now.next c.args.self.now.end (omega arith))

pub returns-clause-goes : goal.returns-clause-goes
returns-clause-goes g c =
    let less = ap length (returns-clause-steps g c) ∙ length_push _ _ in
    record { on = λ finite. (tt, finite, omega (arith, less)); keeps = tt; rests = λ finite. tt }
