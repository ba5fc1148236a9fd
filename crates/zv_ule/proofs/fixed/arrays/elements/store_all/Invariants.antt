use Rattle.zv_ule.proofs.Common.{◌≡◌, length, take, map, AllByRecursion}
use Rattle.zv_ule.proofs.fixed.arrays.elements.store_all.Given as goal

abbrev pub invariant-loop-index : goal.invariant-loop-index
invariant-loop-index g l = record {
  long : length l.out ≡ length l.values;
  done : take l.index l.out ≡ map g.T.AsULE.stored (take l.index l.values);
  valid : AllByRecursion g.T.AsULE.is_value (take l.index l.values);
}
