use Rattle.std.proofs.Common.{◌≡◌, take}
use Rattle.std.specs.List.{flat_map}
use Rattle.zv_fixed.proofs.values.joined.Given as goal

abbrev pub invariant-loop-value : goal.invariant-loop-value
invariant-loop-value g l = l.bytes.items ≡ flat_map g.U.ULE.chunk (take l.value-index l.values)
