use Rattle.zv_layers.proofs.Common.{◌≡◌, left_of, with_pairs}
use Rattle.zv_layers.proofs.overlay.add_row.Given as goal

-- with the pairs that are left it is what it is with all
abbrev pub invariant-loop-key1 : goal.invariant-loop-key1
invariant-loop-key1 l = record {
  can_next : goal.iterator-loop-key1.can_next l.key1-iterator;
  is_finite : goal.iterator-loop-key1.is_finite l.key1-iterator;
  rest : with_pairs l.columns (left_of l.key1-iterator) ≡ with_pairs l.initial.columns (left_of l.fn.pairs);
}
