use Rattle.std.proofs.Common.{◌≡◌, ◌≤◌, drop}
use Rattle.zv_input.specs.Numbers.{number_on}
use Rattle.zv_input.proofs.numbers.read_digits.Given as goal

abbrev pub invariant-loop-digit : goal.invariant-loop-digit
invariant-loop-digit l = record {
  low : l.number ≤ l.most;
  same : number_on l.most 0 l.digits ≡ number_on l.most l.number (drop l.digit-index l.digits);
}
