use Rattle.zv_ule.proofs.Common.{◌+◌, ◌-◌, ◌≤◌, List, map, slice_range, ComputesKey, Ordering, Bytes, Rises}
use Rattle.zv_ule.specs.Search.{Asked}
use Rattle.zv_ule.proofs.Halving.{IsNarrowed}
use Rattle.zv_ule.proofs.search.predicate.halve_by.Given as goal

abbrev pub invariant-loop-window : goal.invariant-loop-window
invariant-loop-window g l =
    let answers = λ (f : Bytes → Ordering). slice_range (map f (g.C.IndexedList.list l.list)) l.fn.range.start l.fn.range.end in
    record {
      callable : goal.P-IsAlwaysCallable g l.predicate;
      within : l.window.low + l.window.size ≤ l.fn.range.end - l.fn.range.start;
      asked : (calls : List (Bytes × Ordering)) × Asked g.P.FnMut l.initial.predicate calls l.predicate;
      narrowed : (f : Bytes → Ordering) → ComputesKey g.P.FnMut f l.initial.predicate →
          ComputesKey g.P.FnMut f l.predicate
          × (Rises (answers f) → IsNarrowed (answers f) l.window.low (l.window.low + l.window.size));
    }

abbrev pub decreases-loop-window : goal.decreases-loop-window
decreases-loop-window g l = l.window.size
