use Rattle.std.proofs.Common.{◌≡◌, ◌<◌}
use Rattle.zv_make.specs.Puts.{number_of, puts}
use Rattle.zv_make.proofs.puts.puts.Given as goal

abbrev pub invariant-loop-turn : goal.invariant-loop-turn
invariant-loop-turn l = record {
  number : l.number ≡ number_of l.turn;
  small : l.number < 4096;
  commands : l.commands ≡ puts l.turn;
}
