use Rattle.zv_json.proofs.NonZero.{non_zero_made}
use Rattle.zv_json.proofs.numbers.non_zero.Goals as goal

pub returns : goal.returns
returns c = non_zero_made c.new.result c.args.n c.new.ensures
