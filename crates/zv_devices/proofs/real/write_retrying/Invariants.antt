use Rattle.std.specs.Io.KnownBytes.{Keeps}
use Rattle.zv_devices.proofs.real.write_retrying.Given as goal

-- writes that were interrupted added nothing
abbrev pub invariant-loop : goal.invariant-loop
invariant-loop g l = Keeps (g.W.Write.contents l.initial.writer) (g.W.Write.contents l.writer)
