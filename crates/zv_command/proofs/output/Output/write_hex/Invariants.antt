use Rattle.zv_command.proofs.Common.{length, encode_lower}
use Rattle.zv_command.proofs.Sending.{Completes}
use Rattle.zv_command.proofs.output.Output.write_hex.Given as goal

abbrev pub invariant-loop-rest : goal.invariant-loop-rest
invariant-loop-rest g l = Completes g.K.Sink.taken g.K.Sink.faults l.initial.self l.self (encode_lower l.fn.bytes) (encode_lower l.rest)

abbrev pub decreases-loop-rest : goal.decreases-loop-rest
decreases-loop-rest g l = length l.rest
