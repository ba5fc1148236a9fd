use Rattle.zv_ule.proofs.Common.{◌≡◌, length, take, map, AllByRecursion, chunks_of}
use Rattle.zv_ule.proofs.fixed.arrays.elements.read_all.Given as goal

abbrev pub invariant-loop-index : goal.invariant-loop-index
invariant-loop-index g l = record {
  count : length (chunks_of g.U.ULE.width l.bytes) ≡ length l.out;
  done : take l.index l.out ≡ map g.U.ULE.value (take l.index (chunks_of g.U.ULE.width l.bytes));
  valid : AllByRecursion g.U.ULE.is_value (take l.index l.out);
}
