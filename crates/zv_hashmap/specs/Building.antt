-- A table that is built of pairs of a key and a value.
use Rattle.std.specs.Prelude.{◌≡◌, ⊤, ℕ, ◌<◌, ◌≤◌, ◌^◌, Bool, true, false, ◌&&◌, IsPermutation}
use Rattle.std.specs.Prelude.{List, [], length, map, Result, Ok, Err}
use Rattle.std.specs.List.{range_with_len}
use Rattle.std.specs.declared.cmp.Ordering.{Ordering}
use Rattle.std.specs.declared.cmp.Ordering.TheVariants.{Equal}
use Rattle.zv_hash.specs.Placement.{Chosen, IsStuck, Placed}
use Rattle.zv_hash.specs.declared.error.HashError.{HashError}
use Rattle.zv_hash.specs.declared.error.HashError.TheVariants.{TooMany, TooLarge, Repeated}
use Rattle.zv_hash.specs.declared.error.HashError.TheVariants.{NoPlace, Memory}
use Rattle.zv_hashmap.specs.Hashed.{key_hash}
use Rattle.zv_hashmap.specs.Table.{AreHome, Table, found, pairs_of}
use Rattle.zv_map.specs.Keys.{Bytes, nth}
use Rattle.zv_map.specs.Maps.{keys_of, look_up, values_of}
use Rattle.zv_map.specs.declared.error.MapError.{MapError}
use Rattle.zv_map.specs.declared.error.MapError.TheVariants.{TooLarge as MapTooLarge}
use Rattle.zv_map.specs.declared.error.MapError.TheVariants.{Memory as MapMemory}
use Rattle.zv_owned.specs.Size.{takes_pushes}

-- the keys before place n all differ
abbrev pub AreApartBelow : (Bytes → Bytes → Ordering) → List Bytes → ℕ → Type 0
AreApartBelow order ks n = (i j : ℕ) → i < j → j < n → order (nth ks i) (nth ks j) ≡ Equal → ⊥

-- the key at place `second` stands at place `first` too, and the keys before it all differ
pub record IsRepeat (order : Bytes → Bytes → Ordering) (ks : List Bytes) (first second : ℕ) :
    Type 0 where
  pub earlier : first < second
  pub within : second < length ks
  pub equal : order (nth ks first) (nth ks second) ≡ Equal
  pub before : AreApartBelow order ks second

-- the hashes of keys
abbrev pub hashes_of : (List ℕ → List ℕ) → List Bytes → List ℕ
hashes_of hashed ks = map (key_hash hashed) ks

-- displacements for keys, and the place of the key in each slot
pub record IsPlacement (order : Bytes → Bytes → Ordering) (hashed : List ℕ → List ℕ)
    (ks : List Bytes) (ds : List (ℕ × ℕ)) (places : List ℕ) : Type 0 where
  pub apart : AreApartBelow order ks (length ks)
  pub chosen : Chosen (hashes_of hashed ks) ds
  pub placed : Placed (hashes_of hashed ks) ds places
  pub permutation : IsPermutation (range_with_len 0 (length ks)) places

-- why keys have no places: one repeats, or none does and a bucket is stuck, or an allocation failed
abbrev pub IsUnplaced : (Bytes → Bytes → Ordering) → (List ℕ → List ℕ) → List Bytes → HashError →
    Type 0
IsUnplaced order hashed ks TooMany = ⊥
IsUnplaced order hashed ks TooLarge = ⊥
IsUnplaced order hashed ks (Repeated first second) = IsRepeat order ks first second
IsUnplaced order hashed ks (NoPlace bucket) =
    AreApartBelow order ks (length ks) × IsStuck (hashes_of hashed ks) bucket
IsUnplaced order hashed ks Memory = ⊤

-- by the rules of two containers, keys and values may be pushed in their order
abbrev pub fit : (List Bytes → ℕ → Bool) → (List Bytes → ℕ → Bool) → List (Bytes × Bytes) → Bool
fit key_rule value_rule pairs =
    takes_pushes key_rule [] (keys_of pairs) && takes_pushes value_rule [] (values_of pairs)

-- refused as too large only where the rules say no, and accepted only where they say yes
abbrev pub IsByRule : {A : Type 0} → Bool → Result A MapError → Type 0
IsByRule fits (Ok _) = fits ≡ true
IsByRule fits (Err MapTooLarge) = fits ≡ false
IsByRule fits (Err MapMemory) = ⊤

-- the refusal of a table for that of a list
abbrev pub refusal_of : MapError → HashError
refusal_of MapTooLarge = TooLarge
refusal_of MapMemory = Memory

-- why pairs have no table: the first cause that holds, but an allocation may fail at any point
abbrev pub IsNoTable : (Bytes → Bytes → Ordering) → (List ℕ → List ℕ) → Bool →
    List (Bytes × Bytes) → HashError → Type 0
IsNoTable order hashed fits pairs TooMany = 2 ^ 32 ≤ length pairs
IsNoTable order hashed fits pairs TooLarge = (length pairs < 2 ^ 32) × (fits ≡ false)
IsNoTable order hashed fits pairs (Repeated first second) =
    (length pairs < 2 ^ 32) × (fits ≡ true) × IsRepeat order (keys_of pairs) first second
IsNoTable order hashed fits pairs (NoPlace bucket) =
    (length pairs < 2 ^ 32) × (fits ≡ true) × AreApartBelow order (keys_of pairs) (length pairs)
    × IsStuck (hashes_of hashed (keys_of pairs)) bucket
IsNoTable order hashed fits pairs Memory = ⊤

-- the table of pairs: none of the causes holds, its displacements are the chosen ones, it has the
-- pairs in another order, each key in its slot, and answers as the pairs do
pub record IsTableOf (order : Bytes → Bytes → Ordering) (hashed : List ℕ → List ℕ) (fits : Bool)
    (pairs : List (Bytes × Bytes)) (t : Table) : Type 0 where
  pub few : length pairs < 2 ^ 32
  pub taken : fits ≡ true
  pub apart : AreApartBelow order (keys_of pairs) (length pairs)
  pub chosen : Chosen (hashes_of hashed (keys_of pairs)) t.displacements
  pub same : IsPermutation pairs (pairs_of t)
  pub home : AreHome hashed t
  pub answers : (key : Bytes) → found order hashed t key ≡ look_up order pairs key
