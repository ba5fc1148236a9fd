use Rattle.zv_frozen.proofs.Common.{◌++◌, ◌≡◌, AreSized, entry, left_of, map, row_triples}
use Rattle.zv_frozen.proofs.build.add_row.Given as goal

-- with the pairs that are left they are what they are with all
abbrev pub invariant-loop-key1 : goal.invariant-loop-key1
invariant-loop-key1 l = record {
  can_next : goal.iterator-loop-key1.can_next l.key1-iterator;
  is_finite : goal.iterator-loop-key1.is_finite l.key1-iterator;
  rest : l.entries.items ++ map entry (row_triples l.key0 (left_of l.key1-iterator))
      ≡ l.initial.entries.items ++ map entry (row_triples l.key0 (left_of l.fn.pairs));
  sized : AreSized l.initial.entries.items → AreSized l.entries.items;
}
