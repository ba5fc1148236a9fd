use Rattle.zv_command.proofs.Common.{rules, Rose, Ok, Err, request_of}
use Rattle.zv_command.proofs.Telling.{due_told}
use Rattle.zv_command.proofs.run.run_request.Goals as goal

pub returns-in-Ok : goal.returns-in-Ok
returns-in-Ok g c =
    let r = g.C.Request in
    let left = g.S.Source.left c.args.source.now in
    let failed = Rose (g.S.Source.faults c.args.source.now) (g.S.Source.faults c.read_input.new.source) in
    let told = due_told r.due (request_of r.with_line c.args.request) left failed (Ok (c.in-Ok.first.items, c.in-Ok.request))
    (search rules) (search rules) (rw c.deref.ensures.value at c.answer.ensures) in
    search rules

pub returns-in-Err-BadLine : goal.returns-in-Err-BadLine
returns-in-Err-BadLine g c =
    let r = g.C.Request in
    let left = g.S.Source.left c.args.source.now in
    let failed = Rose (g.S.Source.faults c.args.source.now) (g.S.Source.faults c.read_input.new.source) in
    let told = due_told r.due (request_of r.with_line c.args.request) left failed (Err c.in-Err-BadLine.number)
    (search rules) (search rules) c.name_line.ensures in
    search rules
