-- Laws of records. w is the width of a start in bytes, and Ks are the tests of the fields' kinds.
use Rattle.std.specs.Prelude.{◌≡◌, ℕ, ◌^◌, ◌<◌, ◌≤◌, ◌↔◌, Bool, true, List, [], ◌∷◌, length}
use Rattle.std.specs.Prelude.{Option, None, is_some}
use Rattle.std.specs.declared.cmp.Ordering.{Ordering}
use Rattle.zv_ule.specs.Bytes.{IsBytes}
use Rattle.zv_ule.specs.Kinds.{EqualIsSame}
use Rattle.zv_ule.specs.declared.error.UleError.{UleError}
use Rattle.zv_var.specs.Format.{elements_after}
use Rattle.zv_var.specs.Laws.{HasStarts}
use Rattle.zv_var.specs.Serialize.{lengthless}
use Rattle.zv_multi.specs.Records.{fields_fault, record_fault, record_len}

-- bytes are the record of these fields, each of its kind
pub record IsRecordOf (w : ℕ) (Ks : List (List ℕ → Option UleError)) (b : List ℕ)
    (xs : List (List ℕ)) : Type 0 where
  pub many : length xs ≡ length Ks
  pub numbered : HasStarts w xs
  pub spelled : b ≡ lengthless w xs
  pub valid : fields_fault Ks 0 xs ≡ None

-- bytes have no fault exactly where they are the record of some fields
abbrev pub SoundExactly : Type 0
SoundExactly = (w : ℕ) (Ks : List (List ℕ → Option UleError)) (b : List ℕ) → 0 < length Ks →
    IsBytes b → (record_fault w (length Ks) Ks b ≡ None)
    ↔ ((xs : List (List ℕ)) × IsRecordOf w Ks b xs)

-- the fields that are read of a record are those that it is written of
abbrev pub ReadsBack : Type 0
ReadsBack = (w : ℕ) (Ks : List (List ℕ → Option UleError)) (b : List ℕ) (xs : List (List ℕ)) →
    IsRecordOf w Ks b xs → elements_after w (length Ks) b ≡ xs

-- values that fit are written as the record of their spellings
abbrev pub WrittenStands : Type 0
WrittenStands = (w : ℕ) (Ks : List (List ℕ → Option UleError)) (fits : List Bool)
    (xs : List (List ℕ)) → 256 ^ w ≤ 2 ^ 32 → length xs ≡ length Ks →
    is_some (record_len w fits xs) ≡ true → fields_fault Ks 0 xs ≡ None →
    IsRecordOf w Ks (lengthless w xs) xs

-- of each kind, elements that compare Equal are the same bytes
abbrev pub AreExact : List (List ℕ → Option UleError) → List (List ℕ → List ℕ → Ordering) → Type 0
AreExact [] [] = Unit {0}
AreExact (K ∷ Ks) (cmp ∷ cmps) = EqualIsSame K cmp × AreExact Ks cmps
AreExact [] (cmp ∷ cmps) = ⊥
AreExact (K ∷ Ks) [] = ⊥
