use Rattle.zv_locale.proofs.Common.{drop, Completes, answers}
use Rattle.zv_locale.proofs.replies.write_answers.Given as goal

-- the lines of the asks that are left are to come
abbrev pub invariant-loop-ask : goal.invariant-loop-ask
invariant-loop-ask g l =
    Completes g.K.Sink.taken g.K.Sink.faults l.initial.out l.out (answers l.map.rows l.asks) (answers l.map.rows (drop l.ask-index l.asks))
