use Rattle.zv_var.proofs.Common.{◌≡◌, drop, pointwise, is_same, left_of, list_of}
use Rattle.zv_var.proofs.slice.VarZeroSlice.same_slice.Given as goal

-- what is left is the same as the whole
abbrev pub invariant-loop-value : goal.invariant-loop-value
invariant-loop-value g l = record {
  can_next : (goal.iterator-loop-value g).can_next l.elements;
  is_finite : (goal.iterator-loop-value g).is_finite l.elements;
  same : pointwise (is_same g.T.ZvOrd.cmp g.Q.ZvArg.bytes) (left_of l.elements) (drop l.value-index l.other) ≡
      pointwise (is_same g.T.ZvOrd.cmp g.Q.ZvArg.bytes) (list_of l.fn.self) l.other;
}
