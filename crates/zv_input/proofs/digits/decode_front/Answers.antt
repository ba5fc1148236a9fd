use Rattle.zv_input.proofs.Common.{arith}
use Rattle.zv_input.proofs.Decoding.{read_more, read_start}
use Rattle.zv_input.proofs.digits.decode_front.Goals as goal

pub pairs-init : goal.pairs-init
pairs-init c = read_start c.args.text.now c.args.place.now

pub pairs-preserved : goal.pairs-preserved
pairs-preserved c =
    read_more _ _ c.pairs.i _ c.pairs.invariant (omega arith) (omega arith) (omega (arith, c.value_of-high.ensures)) (omega (arith, c.value_of-low.ensures))
    (omega (arith, c.value_of-high.ensures, c.value_of-low.ensures))
