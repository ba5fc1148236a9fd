use Rattle.std.proofs.Common.{◌≤◌, ◌-◌, length, take}
use Rattle.std.specs.Io.KnownBytes.{Appends}
use Rattle.zv_devices.proofs.real.write_whole.Given as goal

-- the writer took all that stands before the place
abbrev pub invariant-loop-at : goal.invariant-loop-at
invariant-loop-at g l = record {
  within : l.at ≤ length l.fn.piece;
  taken : Appends (g.W.Write.contents l.initial.writer) (g.W.Write.contents l.writer) (take l.at l.fn.piece);
}

abbrev pub decreases-loop-at : goal.decreases-loop-at
decreases-loop-at g l = length l.fn.piece - l.at
