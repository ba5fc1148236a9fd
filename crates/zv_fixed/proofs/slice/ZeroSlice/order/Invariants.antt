use Rattle.std.proofs.Common.{◌≡◌, length}
use Rattle.std.specs.Cmp.Lexicographic.{slice_cmp}
use Rattle.zv_fixed.specs.Views.{values_in}
use Rattle.zv_fixed.proofs.slice.ZeroSlice.order.Given as goal

abbrev pub invariant-loop-first : goal.invariant-loop-first
invariant-loop-first g l = slice_cmp g.T.Ord.cmp (values_in l.left) (values_in l.right) ≡ slice_cmp g.T.Ord.cmp (values_in l.fn.self) (values_in l.fn.other)

abbrev pub decreases-loop-first : goal.decreases-loop-first
decreases-loop-first g l = length (values_in l.left)
