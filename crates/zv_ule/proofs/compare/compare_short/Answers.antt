use Rattle.zv_ule.proofs.Common.{◌∙◌}
use Rattle.zv_ule.proofs.Fronts.{front_decides, front_is_all, front_same}
use Rattle.zv_ule.proofs.compare.compare_short.Goals as goal

pub returns-in-Equal : goal.returns-in-Equal
returns-in-Equal c =
    let a = c.args.a.now in
    let b = c.args.b.now in
    record { order = c.cmp.ensures ∙ front_is_all a b _ c.min-both.ensures (front_same a b _ _ c.in-Equal.is c.order_by_four.ensures) }

pub returns-in_default : goal.returns-in_default
returns-in_default c = record { order = front_decides c.args.a.now c.args.b.now _ _ c.in_default.not-Equal c.order_by_four.ensures }
