use Rattle.zv_ule.proofs.Common.{◌≡◌, ◌-◌, ◌<◌, ◌≤◌, length, slice_range, ascends, nth}
use Rattle.zv_ule.specs.Views.{element_of}
use Rattle.zv_ule.proofs.search.ascending.range_ascends.Given as goal

abbrev pub invariant-loop-index : goal.invariant-loop-index
invariant-loop-index g l =
    let xs = g.C.IndexedList.list l.list in
    let order = g.T.ZvOrd.cmp in
    record {
      low : l.start < l.index;
      within : l.end ≤ length xs;
      last : element_of l.last ≡ nth xs (l.index - 1);
      same : ascends order (slice_range xs (l.index - 1) l.end) ≡ ascends order (slice_range xs l.start l.end);
    }
