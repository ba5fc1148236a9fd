use Rattle.zv_command.proofs.Common.{rules}
use Rattle.zv_command.proofs.HexText.{encode_none}
use Rattle.zv_command.proofs.Sending.{completes_none}
use Rattle.zv_command.proofs.output.Output.write_hex.Goals as goal

pub returns : goal.returns
returns g c = completes_none c.loop-rest.invariant (encode_none c.loop-rest.rest.now (search rules))
