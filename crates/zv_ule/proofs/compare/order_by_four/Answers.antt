use Rattle.zv_ule.proofs.Common.{◌-◌, arith}
use Rattle.zv_ule.proofs.Fronts.{front_any, front_at, front_same, front_shorter}
use Rattle.zv_ule.proofs.compare.order_by_four.Goals as goal

pub returns-in-Equal : goal.returns-in-Equal
returns-in-Equal c =
    let a = c.args.a.now in
    let b = c.args.b.now in
    front_at (c.args.both - 4) 4 c.args.both a b _ (omega arith)
    (front_shorter a b (c.args.both - 4) 4 (omega arith) (front_same a b 4 _ c.in-Equal.is c.order_of_four.ensures)) c.order_of_four-in-Equal.ensures

pub returns-in_default : goal.returns-in_default
returns-in_default c = front_any c.args.a.now c.args.b.now 4 c.args.both _ c.in_default.not-Equal c.order_of_four.ensures
