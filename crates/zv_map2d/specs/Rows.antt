-- A map in two levels: rows, each a first key with the pairs of second keys and values.
use Rattle.std.specs.Prelude.{◌≡◌, ℕ, ◌+◌, ◌-◌, ◌<◌, List, [], ◌∷◌, ◌++◌, map, length, take, drop}
use Rattle.std.specs.Prelude.{Option, flat_map, slice_index_or, unwrap_or, zip}
use Rattle.std.specs.BTreeMap.{is_at}
use Rattle.std.specs.Coded.{×_prop, le_prop}
use Rattle.std.specs.List.{AllByRecursion, AllByRecursion-prop}
use Rattle.std.specs.List.Sorted.{IsStrictlySortedBy-prop}
use Rattle.std.specs.Map.{lookup_entry}
use Rattle.zv_map.specs.Maps.{IsMap, keys_of, values_of, look_up, insert_entry, without_key}
use Rattle.zv_var.specs.Format.{pieces}
use Rattle.zv_map2d.specs.Keys.{Bytes, Order}

-- a map: for each first key its pairs of a second key and a value
abbrev pub Rows : Type 0
Rows = List (Bytes × List (Bytes × Bytes))

-- the first keys
abbrev pub firsts : Rows → List Bytes
firsts m = keys_of m

-- the second keys of all rows
abbrev pub seconds : Rows → List Bytes
seconds m = flat_map (λ r. keys_of r.1) m

-- the values of all rows
abbrev pub values : Rows → List Bytes
values m = flat_map (λ r. values_of r.1) m

-- for each row the number of pairs up to its end, counted on from n
abbrev pub ends_from : ℕ → Rows → List ℕ
ends_from n [] = []
ends_from n (r ∷ m) = (n + length r.1) ∷ ends_from (n + length r.1) m

-- for each row the number of pairs up to its end
abbrev pub ends : Rows → List ℕ
ends m = ends_from 0 m

-- a row that isn't empty, with ascending keys
abbrev pub IsRow : Order → (Bytes × List (Bytes × Bytes)) → Type 0
IsRow order r = (0 < length r.1) × IsMap order r.1

-- first keys ascend, no row is empty, second keys ascend in each row
abbrev pub IsWell : Order → Order → Rows → Type 0
IsWell order0 order1 m = IsMap order0 m × AllByRecursion (IsRow order1) m

-- there is one proof of it
pub IsWell-prop : (order0 order1 : Order) (m : Rows) → IsProp (IsWell order0 order1 m)
IsWell-prop order0 order1 m = ×_prop (IsStrictlySortedBy-prop order0 (keys_of m))
    (AllByRecursion-prop (IsRow order1)
    (λ r. ×_prop le_prop (IsStrictlySortedBy-prop order1 (keys_of r.1))) m)

-- the first key's row, which is empty where there is none
abbrev pub row : Order → Rows → Bytes → List (Bytes × Bytes)
row order m k0 = unwrap_or (look_up order m k0) []

-- the first key's row with the key that it has in the map
abbrev pub row_of : Order → Rows → Bytes → Option (Bytes × List (Bytes × Bytes))
row_of order m k0 = lookup_entry (is_at (order k0)) m

-- the value of the pair of keys
abbrev pub find : Order → Order → Rows → Bytes → Bytes → Option Bytes
find order0 order1 m k0 k1 = look_up order1 (row order0 m k0) k1

-- v for the pair of keys, whose row is made where it is missing
abbrev pub put : Order → Order → Rows → Bytes → Bytes → Bytes → Rows
put order0 order1 m k0 k1 v = insert_entry order0 m k0 (insert_entry order1 (row order0 m k0) k1 v)

-- the row r for k0, or no row where r is empty
abbrev pub with_row : Order → Rows → Bytes → List (Bytes × Bytes) → Rows
with_row order m k0 [] = without_key order m k0
with_row order m k0 (p ∷ r) = insert_entry order m k0 (p ∷ r)

-- without the pair of keys, and without its row where that was its only pair
abbrev pub del : Order → Order → Rows → Bytes → Bytes → Rows
del order0 order1 m k0 k1 = with_row order0 m k0 (without_key order1 (row order0 m k0) k1)

-- the rows that four lists stand for: to each first key the pairs up to its end
abbrev pub rows_of : List Bytes → List ℕ → List Bytes → List Bytes → Rows
rows_of k0s es k1s vs = zip k0s (pieces (zip k1s vs) 0 es)

-- four lists are those of the map
pub record IsFlat (k0s : List Bytes) (es : List ℕ) (k1s vs : List Bytes) (m : Rows) : Type 0 where
  pub firsts_are : k0s ≡ firsts m
  pub ends_are : es ≡ ends m
  pub seconds_are : k1s ≡ seconds m
  pub values_are : vs ≡ values m

-- how many pairs there are
abbrev pub size : Rows → ℕ
size m = length (flat_map (λ r. r.1) m)

-- how many pairs stand before row i
abbrev pub before : Rows → ℕ → ℕ
before m i = size (take i m)

-- the pairs of row i
abbrev pub row_at : Rows → ℕ → List (Bytes × Bytes)
row_at m i = slice_index_or (values_of m) i []

-- the ends, from row i on, each a more and b less
abbrev pub shift_from : ℕ → ℕ → ℕ → List ℕ → List ℕ
shift_from a b i es = take i es ++ map (λ e. e + a - b) (drop i es)
