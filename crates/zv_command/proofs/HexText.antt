-- Hex digits of bytes after bytes.
use Rattle.zv_command.proofs.Common.{◌≡◌, ℕ, ◌+◌, ◌*◌, ◌/◌, ◌%◌, ◌<◌, ◌==◌, ◌&&◌, Bool, true, slice_index, List, [], ◌∷◌, ◌++◌, length, refl}
use Rattle.zv_command.proofs.Common.{arith, and_parts, eqb-true, encode_lower, lower_digits}
use Rattle.hex.specs.Hex.{encode_with}
use Rattle.std.proofs.lemmas.Bool.{agree_below, agree_below_at}

encode_append : (t xs ys : List ℕ) → encode_with t (xs ++ ys) ≡ encode_with t xs ++ encode_with t ys
unfolding encode_with
encode_append t [] ys = refl
encode_append t (b ∷ rest) ys = rw (encode_append t rest ys) refl

pub encode_lower_append : (xs ys : List ℕ) → encode_lower (xs ++ ys) ≡ encode_lower xs ++ encode_lower ys
encode_lower_append xs ys = encode_append lower_digits xs ys

pub encode_none : (xs : List ℕ) → length xs ≡ 0 → encode_lower xs ≡ []
unfolding encode_with
encode_none [] none = refl
encode_none (b ∷ rest) none = absurd (omega arith)

-- ---- tables

-- whether a byte has its two digits in a table, one byte after another
abbrev pub is_pair : List ℕ → ℕ → Bool
is_pair t k = (slice_index t (2 * k) == slice_index lower_digits (k / 16)) && (slice_index t (2 * k + 1) == slice_index lower_digits (k % 16))

pub pair_in : (t : List ℕ) (k : ℕ) → agree_below (is_pair t) (λ _. true) 256 ≡ true → k < 256
    → (slice_index t (2 * k) ≡ slice_index lower_digits (k / 16)) × (slice_index t (2 * k + 1) ≡ slice_index lower_digits (k % 16))
pair_in t k all lt = let both = and_parts _ _ (agree_below_at (is_pair t) (λ _. true) 256 k all lt) in (eqb-true _ _ both.0, eqb-true _ _ both.1)
