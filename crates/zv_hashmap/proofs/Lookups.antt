-- A table in which each key leads to its own slot answers as its pairs do, in any order.
use Rattle.zv_hashmap.proofs.Common.{◌≡◌, ℕ, ◌<◌, List, [], length, Some, IfSome, refl, sym, arith, IsTotalOrder, IsPermutation, IsPermutation-map}
use Rattle.zv_hashmap.proofs.Common.{Ordering, Equal, AreHome, Table, pairs_of, slot_of_key, key_hash, Bytes, nth, keys_of}
use Rattle.zv_map.specs.Maps.{look_up}
use Rattle.std.proofs.Common.{false, Option, None}
use Rattle.std.proofs.lemmas.List.Folds.{list_any_at}
use Rattle.std.proofs.lemmas.List.Sorted.{Contains-permutation, list_any-IsPermutation}
use Rattle.std.proofs.lemmas.Map.Entries.{place_from_lookup}
use Rattle.std.proofs.lemmas.Map.Made.{is_some-lookup}
use Rattle.std.proofs.lemmas.Option.{get_or_from_slice_get, slice_get-map, slice_get_read, slice_get_within}
use Rattle.std.proofs.lemmas.Slice.Zip.{firsts-zip, seconds-zip}
use Rattle.std.specs.BTreeMap.{is_at}
use Rattle.std.specs.Cmp.{Equal-is}
use Rattle.std.specs.List.{Contains, list_any, slice_get}
use Rattle.zv_hashmap.proofs.Slots.{slot_below}
use Rattle.zv_hashmap.specs.Table.{found_in, found}

-- keys that compare Equal are hashed alike
abbrev pub AreHashedAlike : (Bytes → Bytes → Ordering) → (List ℕ → List ℕ) → Type 0
AreHashedAlike order hashed = (a b : Bytes) → order a b ≡ Equal → hashed a ≡ hashed b

module _ (order : Bytes → Bytes → Ordering) (total : IsTotalOrder order) (hashed : List ℕ → List ℕ) (alike : AreHashedAlike order hashed)
    (t : Table) (long : length t.values ≡ length t.keys) (home : AreHome hashed t) where
  -- a key has what the table's entry of an equal key has
  has_entry : (q k v : Bytes) → order q k ≡ Equal → Contains (pairs_of t) (k, v) → found order hashed t q ≡ Some v
  has_entry q k v equal (s, within, is) =
      let at : slice_get (pairs_of t) s ≡ Some (k, v) = slice_get_read (pairs_of t) _ s (k, v) refl within (sym is) in
      let key : slice_get t.keys s ≡ Some k = rw (← firsts-zip t.keys t.values long, slice_get-map, at) refl in
      let value : slice_get t.values s ≡ Some v = rw (← seconds-zip t.keys t.values long, slice_get-map, at) refl in
      let stored : nth t.keys s ≡ k = get_or_from_slice_get t.keys s k [] key in
      let slot : slot_of_key hashed t q ≡ Some s = rw (alike q k equal, ← stored) (home s (slice_get_within t.keys s k key)) in
      rw (slot, stored, value, total.antisymm k q, equal) refl

  -- and nothing where no key is equal
  has_none : (q : Bytes) → list_any (is_at (order q)) t.keys ≡ false → (o : Option ℕ) → IfSome o (λ s. s < length t.keys) → found_in order t q o ≡ None
  has_none q none None within = refl
  has_none q none (Some s) within = grind (arith, Equal-is, total.antisymm (nth t.keys s) q, list_any_at (is_at (order q)) t.keys s [] within)

  module _ (es : List (Bytes × Bytes)) (same : IsPermutation es (pairs_of t)) where
    has : (q : Bytes) (o : Option Bytes) → look_up order es q ≡ o → found order hashed t q ≡ o
    has q (Some v) e =
        let (i, k, there, equal) = place_from_lookup (is_at (order q)) es v e in
        let entry : Contains es (k, v) = (i, slice_get_within es i (k, v) there, get_or_from_slice_get es i (k, v) (k, v) there) in
        has_entry q k v ((Equal-is (order q k)).0 equal) (Contains-permutation es (pairs_of t) (k, v) same entry)
    has q None e =
        let keys : IsPermutation (keys_of es) t.keys = rw (firsts-zip t.keys t.values long) at (IsPermutation-map (λ (e : Bytes × Bytes). e.0) es _ same) in
        let none : list_any (is_at (order q)) t.keys ≡ false = rw (← list_any-IsPermutation _ (keys_of es) t.keys keys, ← is_some-lookup, e) refl in
        has_none q none (slot_of_key hashed t q) (slot_below t.displacements (length t.keys) (key_hash hashed q))

    pub answers : (q : Bytes) → found order hashed t q ≡ look_up order es q
    answers q = has q (look_up order es q) refl
