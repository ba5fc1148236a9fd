-- Why bytes are no frozen image.
use Rattle.zv_frozen.proofs.Common.{if◌then◌else◌, ◌+◌, ◌<◌, ◌∙◌, ◌∷◌, ◌≡◌, AreHome, Bool, Bytes, Decides, Decides-and, Decides-eqb, Decides-like, FormError}
use Rattle.zv_frozen.proofs.Common.{IfSome, IsReadAs, IsReadTable, List, None, Option, Some, Table, [], ap, are_home, arith, drop, first_no_key, frame_error}
use Rattle.zv_frozen.proofs.Common.{frame_fault, frozen_fault, is_key, is_slot, key_hashed, keys_fault, length, list16, nth, option_map, option_map_or}
use Rattle.zv_frozen.proofs.Common.{parts_fault, parts_in, refl, same_from_decides, slot_of_hash, suc, table_fault, true, zero, ℕ}
use Rattle.std.proofs.Math.Seq.{drop-cons}
use Rattle.zv_hashmap.specs.Hashed.{key_hash}
use Rattle.zv_frozen.specs.declared.error.FrozenError.TheVariants.{Lies}

-- a key that is that of two texts is passed
pub one_key : (ks : List Bytes) (n : ℕ) → n < length ks → is_key (nth ks n) ≡ true → first_no_key n (drop n ks) ≡ first_no_key (n + 1) (drop (n + 1) ks)
one_key ks n h passes =
    let next : suc n ≡ n + 1 = omega arith in
    ap (first_no_key n) (drop-cons ks n [] h) ∙ rw passes (ap (λ m. first_no_key m (drop m ks)) next)

-- ---- slots

slot_is : (s : ℕ) (o : Option ℕ) → Decides (is_slot s o) (o ≡ Some s)
slot_is s None = (λ e. absurd cc, λ e. absurd cc)
slot_is s (Some r) = Decides-like _ (ap Some) (λ e. cc) (Decides-eqb r s)

module _ (ds : List (ℕ × ℕ)) (n : ℕ) where
  -- each key leads to its slot, the first of them to slot s
  abbrev Lead : ℕ → List Bytes → Type 0
  Lead s ks = (i : ℕ) → i < length ks → slot_of_hash ds n (key_hash key_hashed (nth ks i)) ≡ Some (s + i)

  lead_more : (s : ℕ) (k : Bytes) (ks : List Bytes) → slot_of_hash ds n (key_hash key_hashed k) ≡ Some s → Lead (suc s) ks → Lead s (k ∷ ks)
  lead_more s k ks here rest zero h = here ∙ ap Some (omega arith)
  lead_more s k ks here rest (suc i) h = rest i (omega arith) ∙ ap Some (omega arith)

  homes : (s : ℕ) (ks : List Bytes) → Decides (are_home ds n s ks) (Lead s ks)
  homes s [] = (λ _ i h. absurd (omega arith), λ _. refl)
  homes s (k ∷ ks) =
      Decides-like _ (λ both. lead_more s k ks both.0 both.1)
      (λ all. (all 0 (omega arith) ∙ ap Some (omega arith), λ i h. all (suc i) (omega arith) ∙ ap Some (omega arith)))
      (Decides-and _ _ (slot_is s (slot_of_hash ds n (key_hash key_hashed k))) (homes (suc s) ks))

-- a table whose keys are well has no fault exactly where they lie in their slots
pub keys_are : (t : Table) (r : Bool) → first_no_key 0 t.keys ≡ None → Decides r (AreHome key_hashed t) →
    keys_fault t.displacements t.keys ≡ (if r then None else Some Lies)
keys_are t r none home =
    let test = Decides-like _ (λ all i h. all i h ∙ ap Some (omega arith)) (λ all i h. all i h ∙ ap Some (omega arith))
    (homes t.displacements (length t.keys) 0 t.keys) in
    rw (none, same_from_decides r _ home test) refl

-- ---- bytes that are the framed form of a table

read_parts : (t : Table) (parts : Option (List (List ℕ))) → IfSome parts (λ ps. IsReadTable list16 list16 ps t) →
    option_map frame_error (option_map_or (table_fault list16 list16) parts (Some FormError.Frame)) ≡ None →
    option_map_or parts_fault parts None ≡ keys_fault t.displacements t.keys
read_parts t None read none = absurd cc
read_parts t (Some ps) read none = rw (read.displacements, read.keys) refl

pub read_fault : (bytes : List ℕ) (t : Table) → frame_fault bytes ≡ None → IsReadAs bytes t → frozen_fault bytes ≡ keys_fault t.displacements t.keys
read_fault bytes t none read = rw none (read_parts t (parts_in 3 bytes) read none)
