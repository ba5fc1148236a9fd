use Rattle.zv_command.proofs.Common.{length}
use Rattle.zv_command.proofs.Sending.{Completes}
use Rattle.zv_command.proofs.output.Output.write_pieces.Given as goal

abbrev pub invariant-loop-rest : goal.invariant-loop-rest
invariant-loop-rest g l = Completes g.K.Sink.taken g.K.Sink.faults l.initial.self l.self l.fn.text l.rest

abbrev pub decreases-loop-rest : goal.decreases-loop-rest
decreases-loop-rest g l = length l.rest
