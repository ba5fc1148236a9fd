use Rattle.zv_var.proofs.Common.{◌≡◌, ◌-◌, ◌*◌, ◌≤◌, ◌&&◌, length, fields, in_order}
use Rattle.zv_var.proofs.validation.are_in_order.Given as goal

abbrev pub invariant-loop-i : goal.invariant-loop-i
invariant-loop-i g l = record {
  left : g.F.VarZeroVecFormat.W * (l.starts - l._i) ≤ length l.rest;
  same : (l.good && in_order l.start (fields g.F.VarZeroVecFormat.W (l.starts - l._i) l.rest) l.end) ≡
      in_order 0 (fields g.F.VarZeroVecFormat.W l.starts l.indices) l.end;
}
