use Rattle.zv_ule.proofs.Common.{◌≡◌, drop, slice_cmp, nat_cmp}
use Rattle.zv_ule.proofs.compare.compare_each.Given as goal

-- what is left compares as the whole
abbrev pub invariant-loop-i : goal.invariant-loop-i
invariant-loop-i l = slice_cmp nat_cmp (drop l.i l.a) (drop l.i l.b) ≡ slice_cmp nat_cmp l.a l.b
