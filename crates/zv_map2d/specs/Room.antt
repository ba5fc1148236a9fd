-- Changes of a map that take no memory: the room that they need, and what they leave of it.
use Rattle.std.specs.Prelude.{◌≡◌, ◌≤◌, ℕ, ◌+◌, ◌*◌, length, true}
pub use Rattle.zv_map.specs.Vectors.{CanGrow, IsSameVector, Spends, StaysOwned}
use Rattle.zv_map2d.specs.Rows.{seconds}
use Rattle.zv_map2d.specs.Views.{Map2d}

-- every vector is ready for a change that takes no memory
pub record IsReady (m : Map2d) : Type 0 where
  pub keys0 : m.keys0.ready ≡ true
  pub joiner : m.joiner.ready ≡ true
  pub keys1 : m.keys1.ready ≡ true
  pub values : m.values.ready ≡ true

-- each vector of a map owns its bytes, is ready, and can grow by so many of them without memory
pub record CanGrowBy (bytes0 ends bytes1 bytes2 : ℕ) (m : Map2d) : Type 0 where
  pub ready : IsReady m
  pub keys0 : CanGrow m.keys0 bytes0
  pub joiner : CanGrow m.joiner ends
  pub keys1 : CanGrow m.keys1 bytes1
  pub values : CanGrow m.values bytes2

-- room for so many puts whose elements have these lengths in sum, where fields of the three lists
-- have w0, w1 and w2 bytes
pub record HasRoomFor (w0 w1 w2 bytes0 bytes1 bytes2 puts : ℕ) (m : Map2d) : Type 0 where
  pub ready : IsReady m
  pub keys0 : CanGrow m.keys0 (bytes0 + w0 * puts)
  pub joiner : CanGrow m.joiner (4 * puts)
  pub keys1 : CanGrow m.keys1 (bytes1 + w1 * puts)
  pub values : CanGrow m.values (bytes2 + w2 * puts)
  pub pairs : length (seconds m.rows) + puts ≤ 4294967295

-- every vector owns its bytes
pub record IsOwned (m : Map2d) : Type 0 where
  pub keys0 : m.keys0.owned ≡ true
  pub joiner : m.joiner.owned ≡ true
  pub keys1 : m.keys1.owned ≡ true
  pub values : m.values.owned ≡ true

-- what of every vector was owned or ready still is
pub record KeepsOwned (before after : Map2d) : Type 0 where
  pub keys0 : StaysOwned before.keys0 after.keys0
  pub joiner : StaysOwned before.joiner after.joiner
  pub keys1 : StaysOwned before.keys1 after.keys1
  pub values : StaysOwned before.values after.values

-- so many puts, whose elements have these lengths in sum, spend no more of each vector of a map
-- than their elements take; there are at most so many pairs more, and what was owned or ready
-- still is
pub record SpendsFor (w0 w1 w2 bytes0 bytes1 bytes2 puts : ℕ) (before after : Map2d) : Type 0 where
  pub keys0 : Spends (bytes0 + w0 * puts) before.keys0 after.keys0
  pub joiner : Spends (4 * puts) before.joiner after.joiner
  pub keys1 : Spends (bytes1 + w1 * puts) before.keys1 after.keys1
  pub values : Spends (bytes2 + w2 * puts) before.values after.values
  pub pairs : length (seconds after.rows) ≤ length (seconds before.rows) + puts
  pub stays : KeepsOwned before after

-- the same map in the same bytes, whose vectors may have become owned and can grow by no less
pub record IsSameMap (before after : Map2d) : Type 0 where
  pub rows : after.rows ≡ before.rows
  pub keys0 : IsSameVector before.keys0 after.keys0
  pub joiner : IsSameVector before.joiner after.joiner
  pub keys1 : IsSameVector before.keys1 after.keys1
  pub values : IsSameVector before.values after.values
