use Rattle.zv_layers.proofs.Common.{◌+◌, ◌≡◌, ◌≤◌, IsMap, by_bytes, laid_pairs, left_of, length, lengths, lists_left, pair_of, with_pairs}
use Rattle.zv_layers.proofs.overlay.add_both.Given as goal

-- with what is left of both it is what it is with all
abbrev pub invariant-loop-next : goal.invariant-loop-next
invariant-loop-next g l = let left = lists_left pair_of left_of l.walk in record {
  base : IsMap by_bytes left.0;
  over : IsMap by_bytes left.1;
  rest : with_pairs l.columns (laid_pairs left.0 left.1) ≡ with_pairs l.initial.columns (laid_pairs (left_of l.fn.base) (left_of l.fn.over));
  counted : l.initial.steps ≤ l.steps;
  paid : l.steps + lengths left ≤ l.initial.steps + length (left_of l.fn.base) + length (left_of l.fn.over);
}

abbrev pub decreases-loop-next : goal.decreases-loop-next
decreases-loop-next g l = lengths (lists_left pair_of left_of l.walk)
