use Rattle.zv_var.proofs.Common.{◌≡◌, left_of, list_of}
use Rattle.std.specs.Cmp.Lexicographic.{slice_cmp}
use Rattle.zv_var.proofs.slice.VarZeroSlice.order.Given as goal

-- what is left compares as the whole
abbrev pub invariant-loop-first : goal.invariant-loop-first
invariant-loop-first g l = record {
  can_next : (goal.iterator-loop-first g).can_next l.left;
  is_finite : (goal.iterator-loop-first g).is_finite l.left;
  same : slice_cmp g.T.ZvOrd.cmp (left_of l.left) (left_of l.right) ≡ slice_cmp g.T.ZvOrd.cmp (list_of l.fn.self) (list_of l.fn.other);
}
