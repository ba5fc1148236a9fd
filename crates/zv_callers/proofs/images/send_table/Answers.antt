use Rattle.std.proofs.Common.{rules, subst}
use Rattle.zv_devices.specs.Devices.{Takes}
use Rattle.zv_edit.specs.Answers.{answers}
use Rattle.zv_callers.proofs.images.send_table.Goals as goal

pub returns-clause-text : goal.returns-clause-text
returns-clause-text g c =
    subst (λ commands. Takes (g.K.Sink.taken c.args.sink.now) (g.K.Sink.taken c.serve-2.new.sink) c.serve-2.result
    (answers c.args.table.now.rows commands))
    c.new.ensures (search rules)
