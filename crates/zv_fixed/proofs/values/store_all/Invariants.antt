use Rattle.std.proofs.Common.{◌≡◌, ◌*◌, length, take}
use Rattle.std.specs.List.{flat_map}
use Rattle.zv_fixed.proofs.values.store_all.Given as goal

abbrev pub invariant-loop-index : goal.invariant-loop-index
invariant-loop-index g l = record {
  long : length l.out ≡ length l.values * l.width;
  done : take (l.index * l.width) l.out ≡ flat_map (λ v. g.T.ULE.ULE.chunk (g.T.AsULE.stored v)) (take l.index l.values);
}
