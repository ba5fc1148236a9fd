use Rattle.zv_frozen.proofs.Common.{ap, told}
use Rattle.zv_edit.specs.Output.{found_line}
use Rattle.zv_frozen.specs.Requests.{IsAsked, ask_due}
use Rattle.zv_frozen.proofs.form.AskRequest.answer.Goals as goal

pub returns-in-Err : goal.returns-in-Err
unfolding ask_due
returns-in-Err g c = rw (← c.in-Err.ensures.error) c.refuse_frozen.ensures

pub returns-in-Ok : goal.returns-in-Ok
unfolding ask_due
returns-in-Ok g c =
    let found = rw (c.as_str.ensures, c.as_str-in-Ok.ensures) at c.get-found.ensures in
    rw (← c.in-Ok.ensures.error) (told (IsAsked c.args.bytes.now c.args.self.now) _ _ (c.in-Ok.frozen, c.in-Ok.ensures.table, ap found_line found)
    c.tell_found.ensures.text c.tell_found.ensures.cause c.status_of.ensures)
