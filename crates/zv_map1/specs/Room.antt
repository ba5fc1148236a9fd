-- The room that a change of a map needs, and what a change leaves of a map.
use Rattle.std.specs.Prelude.{◌≡◌, ℕ, true}
use Rattle.zv_map.specs.Vectors.{CanGrow, IsSameVector, KeepsItsRoom, StaysOwned}
use Rattle.zv_map1.specs.Views.{Map1}

-- the same pairs in the same bytes, whose vectors may have become owned and can grow by no less
pub record IsSameMap (before after : Map1) : Type 0 where
  pub pairs : after.pairs ≡ before.pairs
  pub keys : IsSameVector before.keys after.keys
  pub values : IsSameVector before.values after.values

-- what of both vectors was owned or ready still is
pub record KeepsOwned (before after : Map1) : Type 0 where
  pub keys : StaysOwned before.keys after.keys
  pub values : StaysOwned before.values after.values

-- both vectors own their bytes, and can grow by so many of them without memory
pub record CanGrowBy (key_bytes value_bytes : ℕ) (m : Map1) : Type 0 where
  pub keys : CanGrow m.keys key_bytes
  pub values : CanGrow m.values value_bytes

-- both vectors own their bytes
pub record IsOwned (m : Map1) : Type 0 where
  pub keys : m.keys.owned ≡ true
  pub values : m.values.owned ≡ true

-- both vectors keep what they own, and can grow by no less
pub record KeepsRoom (before after : Map1) : Type 0 where
  pub keys : KeepsItsRoom before.keys after.keys
  pub values : KeepsItsRoom before.values after.values
