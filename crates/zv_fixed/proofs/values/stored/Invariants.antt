use Rattle.std.proofs.Common.{◌≡◌, take}
use Rattle.std.specs.List.{flat_map}
use Rattle.zv_fixed.proofs.values.stored.Given as goal

abbrev pub invariant-loop-value : goal.invariant-loop-value
invariant-loop-value g l = l.bytes.items ≡ flat_map (λ v. g.T.ULE.ULE.chunk (g.T.AsULE.stored v)) (take l.value-index l.values)
