use Rattle.zv_ule.proofs.Common.{◌≡◌, length, None, slice_cmp, chunks_fault, values_of}
use Rattle.zv_ule.proofs.kinds.slice_order.compare_values.Given as goal

abbrev pub invariant-loop-first : goal.invariant-loop-first
invariant-loop-first g l = record {
  left_good : chunks_fault g.U.ULE.TY g.U.ULE.width g.U.ULE.chunk_fault l.left ≡ None;
  same : slice_cmp g.U.Ord.cmp (values_of g.U.ULE.width g.U.ULE.value l.left) l.right ≡ slice_cmp g.U.Ord.cmp (values_of g.U.ULE.width g.U.ULE.value l.a) l.b;
}

abbrev pub decreases-loop-first : goal.decreases-loop-first
decreases-loop-first g l = length l.left
