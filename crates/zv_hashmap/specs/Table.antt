-- A hash table: keys and values in slots, and the displacements that lead to them.
use Rattle.std.specs.Prelude.{◌≡◌, ℕ, ◌<◌, ◌^◌, ◌==◌, Bool, nat_le, List, length, IsTrue}
use Rattle.std.specs.Prelude.{Option, Some, None, if◌then◌else◌, slice_get, zip}
use Rattle.std.specs.Ordering.{match_ordering}
use Rattle.std.specs.declared.cmp.Ordering.{Ordering}
use Rattle.zv_hash.specs.Placement.{displacement}
use Rattle.zv_hash.specs.Splitting.{bucket_of, index, parts}
use Rattle.zv_hashmap.specs.Hashed.{key_hash}
use Rattle.zv_hashmap.specs.declared.error.HashPartsError.{HashPartsError}
use Rattle.zv_hashmap.specs.declared.error.HashPartsError.TheVariants.{KeyValueCount}
use Rattle.zv_hashmap.specs.declared.error.HashPartsError.TheVariants.{DisplacementCount, TooMany}
use Rattle.zv_map.specs.Keys.{Bytes, nth}
use Rattle.zv_map.specs.Vectors.{Vector}

-- what is seen of a table: the displacements of its buckets, the key and the value of each slot,
-- and its three vectors
pub record Table : Type 0 where
  pub displacements : List (ℕ × ℕ)
  pub keys : List Bytes
  pub values : List Bytes
  pub displacement_vector : Vector
  pub key_vector : Vector
  pub value_vector : Vector

-- the pairs of a key and its value, slot by slot
abbrev pub pairs_of : Table → List (Bytes × Bytes)
pairs_of t = zip t.keys t.values

-- the slot that a hash leads to, of n slots
abbrev pub slot_of_hash : List (ℕ × ℕ) → ℕ → ℕ → Option ℕ
slot_of_hash ds n hash = index (parts hash) (displacement ds (bucket_of n hash)) n

-- the slot that a key leads to
abbrev pub slot_of_key : (List ℕ → List ℕ) → Table → Bytes → Option ℕ
slot_of_key hashed t key = slot_of_hash t.displacements (length t.keys) (key_hash hashed key)

-- what a key has that leads to a slot: the slot's value, if the key there is Equal
abbrev pub found_in : (Bytes → Bytes → Ordering) → Table → Bytes → Option ℕ → Option Bytes
found_in order t key None = None
found_in order t key (Some slot) =
    match_ordering (order (nth t.keys slot) key) None (slice_get t.values slot) None

-- what a key has
abbrev pub found : (Bytes → Bytes → Ordering) → (List ℕ → List ℕ) → Table → Bytes → Option Bytes
found order hashed t key = found_in order t key (slot_of_key hashed t key)

-- each key leads to the slot that it lies in
abbrev pub AreHome : (List ℕ → List ℕ) → Table → Type 0
AreHome hashed t = (s : ℕ) → s < length t.keys → slot_of_key hashed t (nth t.keys s) ≡ Some s

-- three lists can be those of a table: equally many, and fewer than 2^32
pub record AreTable (keys_usable values_usable : Bool) (ds : List (ℕ × ℕ)) (ks vs : List Bytes) :
    Type 0 where
  pub keys : IsTrue keys_usable
  pub values : IsTrue values_usable
  pub value_count : length vs ≡ length ks
  pub displacement_count : length ds ≡ length ks
  pub few : length ks < 2 ^ 32

-- why lists with so many displacements, keys and values are those of no table
abbrev pub parts_fault : ℕ → ℕ → ℕ → Option HashPartsError
parts_fault ds ks vs =
    if ks == vs then
    if ds == ks then if nat_le (2 ^ 32) ks then Some TooMany else None else Some DisplacementCount
    else Some KeyValueCount
