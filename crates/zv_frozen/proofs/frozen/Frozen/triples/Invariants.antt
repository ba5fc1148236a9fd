use Rattle.zv_frozen.proofs.Common.{◌++◌, ◌≡◌, AllByRecursion, AreSizedTriples, IsKey, keys_of, left_of, split, triples_of, written}
use Rattle.zv_ule.specs.Views.{element_of}
use Rattle.zv_frozen.proofs.frozen.Frozen.triples.Given as goal

-- with the pairs that are left they are those of the table
abbrev pub invariant-loop-key : goal.invariant-loop-key
invariant-loop-key l = record {
  can_next : goal.iterator-loop-key.can_next l.key-iterator;
  is_finite : goal.iterator-loop-key.is_finite l.key-iterator;
  rest : written (λ s. s.now) (λ s. s.now) element_of l.triples.items ++ split (left_of l.key-iterator) ≡ triples_of l.self;
  sized : AreSizedTriples (written (λ s. s.now) (λ s. s.now) element_of l.triples.items);
  keys : AllByRecursion IsKey (keys_of (left_of l.key-iterator));
}
