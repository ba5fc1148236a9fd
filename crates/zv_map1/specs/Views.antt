-- What a map stands for.
use Rattle.std.specs.Prelude.{◌≡◌, Bool, IsTrue, List, length}
use Rattle.std.specs.List.Sorted.{IsStrictlySortedBy}
pub use Rattle.zv_map.specs.Keys.{Bytes, IsElementOf, Order, nth}
pub use Rattle.zv_map.specs.Maps.{IsMap, insert_entry, keys_of, look_up, set_value_at, values_of}
pub use Rattle.zv_map.specs.Maps.{without_key}
pub use Rattle.zv_map.specs.Vectors.{Vector}

-- pairs of a key and its value
abbrev pub Pairs : Type 0
Pairs = List (Bytes × Bytes)

-- a map: its pairs in the order of the keys, and its vectors
pub record Map1 : Type 0 where
  pub pairs : Pairs
  pub keys : Vector
  pub values : Vector

-- two lists of elements of usable kinds are the keys and the values of a map: equally many, and the
-- keys ascend strictly
pub record AreColumns (usable_keys usable_values : Bool) (order : Order) (ks vs : List Bytes) :
    Type 0 where
  pub keys : IsTrue usable_keys
  pub values : IsTrue usable_values
  pub count : length vs ≡ length ks
  pub ascending : IsStrictlySortedBy order ks
