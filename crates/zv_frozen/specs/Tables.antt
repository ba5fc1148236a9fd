-- The hash table of a frozen image.
use Rattle.std.specs.Prelude.{◌≡◌, ℕ, ◌<◌, ◌^◌, Bool, List, [], ◌∷◌, length, map, nat_lt}
use Rattle.std.specs.Prelude.{Option, None, if◌then◌else◌}
use Rattle.std.specs.List.{All}
use Rattle.zv_var.specs.Format.{enc}
use Rattle.zv_owned.specs.Size.{takes_insert}
use Rattle.zv_map.specs.Keys.{Bytes, nth}
use Rattle.zv_map2d.specs.Appending.{Triple, put_all}
use Rattle.zv_map2d.specs.Causes.{Reading}
use Rattle.zv_map2d.specs.Image.{by_bytes, bytes_fault, var_list}
use Rattle.zv_map2d.specs.Rows.{Rows}
use Rattle.zv_map2d_laws.specs.Overlays.{triples}
use Rattle.zv_hashmap.specs.Building.{IsTableOf, fit}
use Rattle.zv_hashmap.specs.Table.{AreHome, Table, found, pairs_of}
use Rattle.zv_framed.specs.Displacements.{displacements_written}
use Rattle.zv_framed.specs.Frames.{IsReadFrom, frame_of}
use Rattle.zv_framed.specs.Read.{IsReadTable}
use Rattle.zv_frozen.specs.Keys.{IsKey, key_hashed, key_order, pair_key, text0, text1}

-- ---- of a map

-- a triple of two texts and a value as a pair of the key of the texts and the value
abbrev pub entry : Triple → Bytes × Bytes
entry t = (pair_key t.0 t.1, t.2)

-- the pairs of a map, in order
abbrev pub entries : Rows → List (Bytes × Bytes)
entries m = map entry (triples m)

-- each key and each value is shorter than 2 ^ 64 bytes, as all are that are at hand
abbrev pub AreSized : List (Bytes × Bytes) → Type 0
AreSized es = All (λ e. length e.0 < 2 ^ 64) es × All (λ e. length e.1 < 2 ^ 64) es

-- keys and values may be pushed in their order into lists with fields of two bytes
abbrev pub fit16 : List (Bytes × Bytes) → Bool
fit16 pairs = fit (takes_insert 2) (takes_insert 2) pairs

-- the table of the pairs of a map
abbrev pub IsTableFor : Rows → Table → Type 0
IsTableFor m t = IsTableOf key_order key_hashed (fit16 (entries m)) (entries m) t

-- the framed form of a table
abbrev pub table_bytes : Table → List ℕ
table_bytes t =
    frame_of (displacements_written t.displacements ∷ enc 2 t.keys ∷ enc 2 t.values ∷ [])

-- bytes are the frozen image of a map: the framed form of the table of its pairs
pub record IsFrozen (m : Rows) (bytes : List ℕ) : Type 0 where
  pub table : Table
  pub counts : length table.values ≡ length table.keys
  pub of_map : IsTableFor m table
  pub framed : bytes ≡ table_bytes table

-- ---- of bytes

-- the lists of keys and of values
abbrev pub list16 : Reading
list16 = var_list 2 bytes_fault

-- a table is read from bytes as their framed form
abbrev pub IsReadAs : List ℕ → Table → Type 0
IsReadAs bytes t = IsReadFrom 3 (IsReadTable list16 list16) bytes t

-- each key of a table is that of two texts
abbrev pub AreKeys : Table → Type 0
AreKeys t = (s : ℕ) → s < length t.keys → IsKey (nth t.keys s)

-- and leads to the slot that it lies in
pub record IsSound (t : Table) : Type 0 where
  pub keys : AreKeys t
  pub home : AreHome key_hashed t

-- what a pair of texts has
abbrev pub value_of : Table → Bytes → Bytes → Option Bytes
value_of t k0 k1 = if nat_lt (length k0) (2 ^ 32) then found key_order key_hashed t (pair_key k0 k1)
    else None

-- pairs of a key and a value as the texts of the key and the value
abbrev pub split : List (Bytes × Bytes) → List Triple
split ps = map (λ p. (text0 p.0, text1 p.0, p.1)) ps

-- the texts of each key with its value, slot by slot
abbrev pub triples_of : Table → List Triple
triples_of t = split (pairs_of t)

-- each text and each value is shorter than 2 ^ 64 bytes, as all are that are at hand
pub record AreSizedTriples (ts : List Triple) : Type 0 where
  pub first : All (λ t. length t.0 < 2 ^ 64) ts
  pub second : All (λ t. length t.1 < 2 ^ 64) ts
  pub value : All (λ t. length t.2 < 2 ^ 64) ts

-- the map that these make, put one after another
abbrev pub thawed : Table → Rows
thawed t = put_all by_bytes by_bytes [] (triples_of t)
