-- The fields of records.
use Rattle.std.proofs.Common.{◌≡◌, ℕ, suc, ◌+◌, List, [], ◌∷◌, Option, refl, add-one}
use Rattle.zv_ule.specs.declared.error.UleError.{UleError}
use Rattle.zv_multi.specs.Records.{fields_fault}

-- the fields behind the first, from a place of their own on
fields_behind : (Ks : List (List ℕ → Option UleError)) (i : ℕ) (x : List ℕ) (xs : List (List ℕ)) →
    fields_fault Ks (i + 1) (x ∷ xs) ≡ fields_fault Ks i xs
fields_behind [] i x xs = refl
fields_behind (K ∷ Ks) i x xs = rw (add-one, fields_behind Ks (suc i) x xs) refl

pub behind_first : (Ks : List (List ℕ → Option UleError)) (x : List ℕ) (xs : List (List ℕ)) → fields_fault Ks 1 (x ∷ xs) ≡ fields_fault Ks 0 xs
behind_first Ks x xs = fields_behind Ks 0 x xs
