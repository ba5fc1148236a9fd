use Rattle.zv_frozen.specs.Requests.{freeze_due}
use Rattle.zv_frozen.proofs.form.FreezeRequest.answer.Goals as goal

pub answer_map-requires-clause-rows : goal.answer_map-requires-clause-rows
answer_map-requires-clause-rows g c = c.laws.ensures.rows c.args.image.now c.in-Ok.map.rows c.bytes_are_few.ensures c.in-Ok.ensures.map

pub returns-in-Err : goal.returns-in-Err
unfolding freeze_due
returns-in-Err g c = rw (← c.in-Err.ensures.error) c.refuse.ensures
