use Rattle.zv_layers.proofs.Common.{◌∙◌, ◌≡◌, arith, map, pair_count, row_entry, rows_left}
use Rattle.zv_layers.proofs.Gathered.{comes, ends_whole, goes_on, starts}
use Rattle.zv_layers.proofs.overlay.gather.Goals as goal

pub loop-next-init : goal.loop-next-init
loop-next-init g c =
    let m = c.args.base.now.rows in
    let n = c.args.over.now.rows in
    let base : map row_entry (rows_left c.iter0.result) ≡ m = c.iter0.ensures.rows ∙ c.as_borrowed.ensures.rows in
    let over : map row_entry (rows_left c.iter0-2.result) ≡ n = c.iter0-2.ensures.rows ∙ c.as_borrowed-2.ensures.rows in
    starts m n c.args.steps.now (c.new-walk.ensures ∙ (λ i. (base i, over i))) c.new-columns.ensures c.in_order.ensures.ascending
    c.in_order-2.ensures.ascending

pub add_next-requires : goal.add_next-requires
add_next-requires g c = (comes c.loop-next.invariant c.in-Some.ensures.next).holds

pub loop-next-smaller : goal.loop-next-smaller
loop-next-smaller g c = (comes c.loop-next.invariant c.in-Some.ensures.next).fewer

pub returns-in_err-add_next-clause-steps : goal.returns-in_err-add_next-clause-steps
returns-in_err-add_next-clause-steps g c =
    let spent = (comes c.loop-next.invariant c.in-Some.ensures.next).spent pair_count in
    omega (arith, c.loop-next.invariant.paid, c.in-Some.ensures.steps, c.add_next.ensures.steps, spent)

pub loop-next-preserved : goal.loop-next-preserved
loop-next-preserved g c =
    goes_on c.loop-next.invariant c.in-Some.ensures.next c.in_ok-add_next.ensures.row (omega (arith, c.in-Some.ensures.counted, c.add_next.ensures.counted))
    (omega (arith, c.in-Some.ensures.steps, c.add_next.ensures.steps))

pub returns-clause-rows : goal.returns-clause-rows
returns-clause-rows g c = (ends_whole c.loop-next.invariant c.in_default.ensures.next).0

pub returns-clause-in_order : goal.returns-clause-in_order
returns-clause-in_order g c = (ends_whole c.loop-next.invariant c.in_default.ensures.next).1
