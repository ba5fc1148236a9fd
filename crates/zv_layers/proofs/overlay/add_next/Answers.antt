use Rattle.zv_layers.proofs.Common.{◌≡◌, ap, arith, left_of, length}
use Rattle.zv_layers.proofs.overlay.add_next.Goals as goal

pub returns-in_err-add_both-in-Both-clause-steps : goal.returns-in_err-add_both-in-Both-clause-steps
returns-in_err-add_both-in-Both-clause-steps g c =
    let below : length (left_of c.iter1-in-Both.result) ≡ length c.in-Both.base.pairs = ap length c.iter1-in-Both.ensures in
    let above : length (left_of c.iter1-in-Both-2.result) ≡ length c.in-Both.over.pairs = ap length c.iter1-in-Both-2.ensures in
    rw c.in-Both.is (omega (arith, below, above, c.add_both.ensures.steps))

pub returns-in_ok-add_both-in-Both-clause-steps : goal.returns-in_ok-add_both-in-Both-clause-steps
returns-in_ok-add_both-in-Both-clause-steps g c =
    let below : length (left_of c.iter1-in-Both.result) ≡ length c.in-Both.base.pairs = ap length c.iter1-in-Both.ensures in
    let above : length (left_of c.iter1-in-Both-2.result) ≡ length c.in-Both.over.pairs = ap length c.iter1-in-Both-2.ensures in
    rw c.in-Both.is (omega (arith, below, above, c.add_both.ensures.steps))
