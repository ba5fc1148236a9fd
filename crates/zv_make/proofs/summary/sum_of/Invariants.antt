use Rattle.std.proofs.Common.{◌≡◌, ◌*◌, ◌≤◌, take}
use Rattle.std.specs.Prelude.{sum}
use Rattle.zv_make.proofs.summary.sum_of.Given as goal

abbrev pub invariant-loop-byte : goal.invariant-loop-byte
invariant-loop-byte l = record {
  is : l.sum ≡ sum (take l.byte-index l.bytes);
  bound : l.sum ≤ 255 * l.byte-index;
}
