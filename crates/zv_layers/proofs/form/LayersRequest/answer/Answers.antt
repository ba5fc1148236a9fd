use Rattle.zv_layers.proofs.Common.{◌≡◌, ap, bytes_of_all, rules}
use Rattle.zv_edit.specs.Answers.{answers}
use Rattle.zv_layers.proofs.Laying.{answered, due_fault}
use Rattle.zv_layers.proofs.form.LayersRequest.answer.Goals as goal

pub returns-in-Ok : goal.returns-in-Ok
returns-in-Ok g c =
    let images : bytes_of_all c.deref.result.now ≡ c.args.self.now = search rules in
    let laid = rw images at c.in-Ok.ensures.laid in
    let text = ap (answers c.in-Ok.map.rows) c.new.ensures in
    answered c.args.first.now c.args.self.now _ _ laid.0 (c.in-Ok.map.rows, laid.1, text) c.serve-in-Ok.ensures.text
    c.serve-in-Ok.ensures.cause c.status_of.ensures

pub returns-in-Err-Fault : goal.returns-in-Err-Fault
returns-in-Err-Fault g c =
    let images : bytes_of_all c.deref.result.now ≡ c.args.self.now = search rules in
    rw (due_fault c.args.first.now c.args.self.now c.in-Err-Fault.field-0-is (rw images at c.in-Err-Fault.ensures.laid)) c.refuse_layer.ensures
