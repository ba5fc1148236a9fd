use Rattle.zv_props.proofs.Steps.{next}
use Rattle.zv_props.proofs.request.take_steps.Goals as goal

pub loop-step-preserved : goal.loop-step-preserved
loop-step-preserved c =
    rw c.in_ok-take_step.ensures.reply
    (next c.args.table.now c.loop-step.table c.take_step.new.table c.args.steps.now c.loop-step.step-index _ c.loop-step.text.items c.loop-step-test.true
    (c.requires c.loop-step.step-index _ c.loop-step-test.true) c.in_ok-take_step.ensures.table c.loop-step.invariant)
