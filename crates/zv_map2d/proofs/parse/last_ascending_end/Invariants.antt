use Rattle.zv_map2d.proofs.Common.{◌≡◌, left_of, last_ascending}
use Rattle.zv_fixed.specs.Views.{values_in}
use Rattle.zv_map2d.proofs.parse.last_ascending_end.Given as goal

abbrev pub invariant-loop-end : goal.invariant-loop-end
invariant-loop-end l = record {
  can_next : (goal.iterator-loop-end).can_next l.end-iterator;
  is_finite : (goal.iterator-loop-end).is_finite l.end-iterator;
  same : last_ascending l.last (left_of l.end-iterator) ≡ last_ascending 0 (values_in l.joiner);
}
