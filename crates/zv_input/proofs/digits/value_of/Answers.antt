use Rattle.zv_input.proofs.Common.{refl, arith}
use Rattle.zv_input.proofs.Decoding.{value_in}
use Rattle.zv_input.specs.declared.digits.TheConstants.{VALUES}
use Rattle.zv_input.proofs.digits.value_of.Goals as goal

pub returns : goal.returns
returns c = value_in VALUES c.args.digit refl (omega arith)
