use Rattle.zv_ule.proofs.Common.{◌+◌, ◌-◌, ◌≤◌, slice_range, Rises}
use Rattle.zv_ule.specs.Search.{compared}
use Rattle.zv_ule.proofs.Halving.{IsNarrowed, IsHalved}
use Rattle.zv_ule.proofs.search.halve.Given as goal

abbrev pub invariant-loop-window : goal.invariant-loop-window
invariant-loop-window g l =
    let answers = compared g.T.ZvOrd.cmp (g.C.IndexedList.list l.list) (g.Q.ZvArg.bytes l.key) in
    let ys = slice_range answers l.fn.range.start l.fn.range.end in
    record {
      within : l.window.low + l.window.size ≤ l.fn.range.end - l.fn.range.start;
      counted : l.fn.steps ≤ l.steps;
      narrowed : Rises ys → IsNarrowed ys l.window.low (l.window.low + l.window.size);
      halved : IsHalved (l.fn.range.end - l.fn.range.start) (l.steps - l.fn.steps) l.window.size;
    }

abbrev pub decreases-loop-window : goal.decreases-loop-window
decreases-loop-window g l = l.window.size
