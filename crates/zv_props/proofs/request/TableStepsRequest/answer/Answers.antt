use Rattle.zv_props.proofs.Common.{refl}
use Rattle.zv_command.proofs.Telling.{tells_sent}
use Rattle.zv_props.specs.Requests.{props_due}
use Rattle.zv_props.proofs.request.TableStepsRequest.answer.Goals as goal

pub returns : goal.returns
unfolding props_due
returns g c =
    let is = rw (c.deref.ensures.value, c.self.view_is, c.in-Ok.ensures.rows) at c.in-Ok-answer_text.ensures in
    rw (← c.in-Ok.ensures.error) (tells_sent _ refl (rw c.deref-2.ensures.value is) c.send.ensures.sent c.send.ensures.later)
