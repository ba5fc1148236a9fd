use Rattle.zv_props.proofs.Common.{take}
use Rattle.zv_props.proofs.Steps.{IsOnWay}
use Rattle.zv_props.proofs.request.take_steps.Given as goal

abbrev pub invariant-loop-step : goal.invariant-loop-step
invariant-loop-step l = IsOnWay l.initial.table l.table (take l.step-index l.steps) l.text.items
