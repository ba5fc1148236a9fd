use Rattle.std.proofs.Common.{◌+◌, ◌≤◌, length, map}
use Rattle.std.specs.declared.cmp.Ordering.{Ordering}
use Rattle.zv_ule.specs.Search.{Rises}
use Rattle.zv_ule.proofs.Halving.{IsNarrowed}
use Rattle.zv_fixed.specs.Calls.{Asked, Computes}
use Rattle.zv_fixed.specs.Views.{values_in}
use Rattle.zv_fixed.proofs.slice.ZeroSlice.binary_search_by.Given as goal

abbrev pub invariant-loop-window : goal.invariant-loop-window
invariant-loop-window g l = record {
  callable : goal.P-IsAlwaysCallable g l.predicate;
  within : l.window.low + l.window.size ≤ length (values_in l.self);
  asked : (calls : _) × Asked g.P.FnMut l.initial.predicate calls l.predicate;
  narrowed : (f : _ → Ordering) → Computes g.P.FnMut f l.initial.predicate →
      Computes g.P.FnMut f l.predicate
      × (Rises (map f (values_in l.self)) → IsNarrowed (map f (values_in l.self)) l.window.low (l.window.low + l.window.size));
}

abbrev pub decreases-loop-window : goal.decreases-loop-window
decreases-loop-window g l = l.window.size
