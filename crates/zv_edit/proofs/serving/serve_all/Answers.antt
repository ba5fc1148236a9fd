use Rattle.zv_edit.proofs.Common.{rules, answers, Takes}
use Rattle.zv_command.proofs.Sending.{takes_from}
use Rattle.zv_edit.proofs.serving.serve_all.Goals as goal

pub returns-clause-text : goal.returns-clause-text
returns-clause-text g c =
    let taken : Takes (g.K.Sink.taken c.new.result.sink.now) (g.K.Sink.taken c.write_answer.new.out.sink.now) c.write_answer.result
    (answers c.args.map.now.rows c.args.commands) = takes_from c.new.ensures.empty c.write_answer.ensures.text c.write_answer.ensures.sent in
    search rules
