-- A list in another order.
use Rattle.std.specs.Prelude.{ℕ, List, map}
use Rattle.zv_map.specs.Keys.{Bytes, nth}

-- the elements at the places, in their order
abbrev pub permuted : List Bytes → List ℕ → List Bytes
permuted xs places = map (λ i. nth xs i) places
