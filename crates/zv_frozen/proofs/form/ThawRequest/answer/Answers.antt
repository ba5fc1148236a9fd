use Rattle.zv_frozen.specs.Requests.{thaw_due}
use Rattle.zv_frozen.proofs.form.ThawRequest.answer.Goals as goal

pub returns-in-Err : goal.returns-in-Err
unfolding thaw_due
returns-in-Err g c = rw (← c.in-Err.ensures.error) c.refuse_frozen.ensures
