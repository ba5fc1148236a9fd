use Rattle.zv_var.proofs.Common.{◌≡◌, ◌-◌, ◌*◌, ◌≤◌, length, true, AllByRecursion, fields}
use Rattle.zv_var.proofs.validation.are_boundaries.Given as goal

-- where the rest and what was read are good, the whole is
abbrev pub invariant-loop-i : goal.invariant-loop-i
invariant-loop-i g l = record {
  left : g.F.VarZeroVecFormat.W * (l.starts - l._i) ≤ length l.rest;
  same : l.good ≡ true → AllByRecursion (λ a. g.T.ZvKind.boundary l.body a ≡ true) (fields g.F.VarZeroVecFormat.W (l.starts - l._i) l.rest) →
      AllByRecursion (λ a. g.T.ZvKind.boundary l.body a ≡ true) (fields g.F.VarZeroVecFormat.W l.starts l.indices);
}
