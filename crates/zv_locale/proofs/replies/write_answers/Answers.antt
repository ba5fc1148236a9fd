use Rattle.zv_locale.proofs.Common.{ap, sym, subst, arith, drop_all, All-get_or, completes_last, IsAsk, answers}
use Rattle.zv_locale.proofs.replies.write_answers.Goals as goal

pub write_answer-requires : goal.write_answer-requires
write_answer-requires g c =
    subst IsAsk (sym c.ask-item.is) (All-get_or IsAsk c.args.asks.now c.loop-ask.ask-index c.ask-item.result c.loop-ask-test.true c.requires)

pub returns-clause-text : goal.returns-clause-text
returns-clause-text g c =
    completes_last c.loop-ask.invariant (ap (answers c.args.map.now.rows) (drop_all c.loop-ask.ask-index c.args.asks.now (omega arith))) c.send.ensures.text
