use Rattle.zv_command.proofs.Common.{slice_index, refl, arith, lower_digits, encode_done, encode_step}
use Rattle.zv_command.proofs.HexText.{pair_in}
use Rattle.zv_command.specs.declared.digits.TheConstants.{PAIRS}
use Rattle.zv_command.proofs.digits.encode_to.Goals as goal

pub bytes-preserved : goal.bytes-preserved
bytes-preserved c =
    let byte = slice_index c.args.bytes.now c.bytes.i in
    let pair = pair_in PAIRS.now byte refl (omega (arith, c.type_inv.bytes c.bytes.i)) in
    encode_step lower_digits c.args.bytes.now c.bytes.digits c.bytes.i _ _ (omega arith) (omega arith) pair.0 pair.1 c.bytes.invariant

pub returns : goal.returns
returns c = encode_done lower_digits _ _ c.bytes.i (omega arith) (omega arith) c.bytes.invariant
