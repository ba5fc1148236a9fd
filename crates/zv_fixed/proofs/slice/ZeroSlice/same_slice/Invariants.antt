use Rattle.std.proofs.Common.{◌≡◌, length}
use Rattle.std.specs.Cmp.Lexicographic.{pointwise}
use Rattle.zv_fixed.specs.Views.{values_in}
use Rattle.zv_fixed.proofs.slice.ZeroSlice.same_slice.Given as goal

abbrev pub invariant-loop-first : goal.invariant-loop-first
invariant-loop-first g l = pointwise g.T.PartialEq.eq (values_in l.left) l.right ≡ pointwise g.T.PartialEq.eq (values_in l.fn.self) l.other

abbrev pub decreases-loop-first : goal.decreases-loop-first
decreases-loop-first g l = length (values_in l.left)
