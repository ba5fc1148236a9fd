use Rattle.zv_ule.proofs.Common.{◌≡◌, length, take, map, AllByRecursion}
use Rattle.zv_ule.proofs.fixed.arrays.elements.load_all.Given as goal

abbrev pub invariant-loop-index : goal.invariant-loop-index
invariant-loop-index g l = record {
  long : length l.out ≡ length l.stored;
  done : take l.index l.out ≡ map g.T.AsULE.loaded (take l.index l.stored);
  valid : AllByRecursion g.T.AsULE.is_value (take l.index l.out);
}
