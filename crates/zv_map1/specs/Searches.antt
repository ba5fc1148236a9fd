-- What a look-up by a predicate gives.
use Rattle.std.specs.Prelude.{◌≡◌, ℕ, length, map, Option, None, option_map, Result}
use Rattle.std.specs.Prelude.{Ok, Err, slice_get}
use Rattle.std.specs.Fn.{Mut, ComputesKey}
use Rattle.std.specs.List.Sorted.{IsSearchInRange}
use Rattle.std.specs.declared.cmp.Ordering.{Ordering}
use Rattle.zv_ule.specs.Search.{AnsweredEqual, Found}
use Rattle.zv_map1.specs.Views.{Bytes, Pairs, keys_of, values_of}
use denote.Ref.{Bor}

-- the value at the place where a search ended, or nothing where it found no key
abbrev pub value_found : Pairs → Result ℕ ℕ → Option Bytes
value_found m (Ok i) = slice_get (values_of m) i
value_found m (Err i) = None

-- a search of the keys by the predicate ended at a place, and the value is the one there: the
-- predicate answered Equal for its key; and where the predicate is a function of the key and its
-- answers rise along the keys, there is no value only where no key is answered Equal
pub record IsFoundBy {F : Type 0} (g : Mut F (Bor Bytes × Unit {0}) Ordering) (predicate : F)
    (m : Pairs) (v : Option Bytes) : Type 0 where
  pub place : Result ℕ ℕ
  pub bound : IsSearchInRange place (length m)
  pub equal : AnsweredEqual g predicate (keys_of m) place
  pub found : (answer : Bytes → Ordering) → ComputesKey g answer predicate →
      Found (map answer (keys_of m)) place
  pub value : v ≡ value_found m place

-- the value that is read is that of a search by the predicate
pub record IsCopiedBy {F A : Type 0} (g : Mut F (Bor Bytes × Unit {0}) Ordering) (predicate : F)
    (m : Pairs) (read : Bytes → A) (v : Option A) : Type 0 where
  pub value : Option Bytes
  pub found : IsFoundBy g predicate m value
  pub copied : v ≡ option_map read value
