-- A map as the list of its entries, each a key with what it has, in the order of the keys. The
-- words are std's.
use Rattle.std.specs.Prelude.{◌≡◌, ℕ, suc, ◌<◌, List, [], ◌∷◌, length, set, Option}
use Rattle.std.specs.declared.cmp.Ordering.{Ordering}
use Rattle.std.specs.declared.cmp.Ordering.TheVariants.{Less, Equal}
use Rattle.std.specs.BTreeMap.{is_at}
use Rattle.std.specs.List.Sorted.{IsStrictlySortedBy}
use Rattle.std.specs.Map.{lookup, remove_entry}
use Rattle.std.specs.Ordering.{match_ordering}
use Rattle.zv_ule.specs.Search.{answer_at}
use Rattle.zv_map.specs.Keys.{Bytes, nth}
pub use Rattle.std.specs.BTreeMap.{insert_entry}
pub use Rattle.std.specs.Map.{keys_of, values_of}

-- the keys ascend strictly
abbrev pub IsMap : {X : Type 0} → (Bytes → Bytes → Ordering) → List (Bytes × X) → Type 0
IsMap order m = IsStrictlySortedBy order (keys_of m)

-- what the key has; `insert_entry order m k x` is the map with x for k
abbrev pub look_up : {X : Type 0} → (Bytes → Bytes → Ordering) → List (Bytes × X) → Bytes → Option X
look_up order m k = lookup (is_at (order k)) m

-- without the key and what it has
abbrev pub without_key : {X : Type 0} →
    (Bytes → Bytes → Ordering) → List (Bytes × X) → Bytes → List (Bytes × X)
without_key order m k = remove_entry (is_at (order k)) m

-- how many keys are below k
abbrev pub rank : {X : Type 0} → (Bytes → Bytes → Ordering) → List (Bytes × X) → Bytes → ℕ
rank order [] k = 0
rank order (e ∷ es) k = match_ordering (order k e.0) 0 0 (suc (rank order es k))

-- with x for the i-th key
abbrev pub set_value_at : {X : Type 0} → List (Bytes × X) → ℕ → X → List (Bytes × X)
set_value_at m i x = set m i (nth (keys_of m) i, x)

-- place i answers Equal, and all before it Less
pub record IsAt (answers : List Ordering) (i : ℕ) : Type 0 where
  pub within : i < length answers
  pub less : (j : ℕ) → j < i → answer_at answers j ≡ Less
  pub equal : answer_at answers i ≡ Equal
