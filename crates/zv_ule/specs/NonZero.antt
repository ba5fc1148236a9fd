-- Numbers other than 0 in one byte.
use Rattle.std.proofs.Common.{◌≡◌, ℕ, zero, suc, ◌<◌, ◌^◌, List, [], ◌∷◌, Option, Some, None, refl}
use Rattle.std.proofs.Common.{ap, sym, ◌∙◌, arith, slice_index, subst}
use Rattle.std.proofs.Math.Bridge.{le_prop}
use Rattle.std.proofs.Math.Nat.{zero-lt-suc}
use Rattle.std.specs.Int.{w8, cast_signed, cast_unsigned}
use Rattle.std.specs.Prelude.{ℤ, pos, negsuc, unsigned_abs, FitsSigned}
use Rattle.std.specs.declared.num.NonZeroI8.{NonZeroI8}
use Rattle.std.specs.declared.num.NonZeroU8.{NonZeroU8}
use Rattle.zv_ule.specs.declared.error.TyName.TheVariants.{NonZeroU8 as NonZeroU8Name}
use Rattle.zv_ule.specs.declared.error.UleError.{UleError}
use Rattle.zv_ule.specs.declared.error.UleError.TheVariants.{ParseError}
use Rattle.zv_ule.specs.Fixed.{IsSpelling, IsTwin}
use Rattle.zv_ule.specs.laws.Spellings.{no_bytes, more_bytes, one_byte}
use Rattle.zv_ule.specs.laws.Twins.{sign_twin}

-- the error of a byte: only 0 has one
abbrev pub zero_fault : ℕ → Option UleError
zero_fault zero = Some (ParseError NonZeroU8Name)
zero_fault (suc n) = None

-- the error of a chunk
abbrev pub non_zero_fault : List ℕ → Option UleError
non_zero_fault b = zero_fault (slice_index b 0)

-- that number, and 1 for 0
abbrev pub non_zero_of : ℕ → NonZeroU8
non_zero_of zero = record { value = 1; ok = zero-lt-suc 0 }
non_zero_of (suc n) = record { value = suc n; ok = zero-lt-suc n }

-- what a chunk stands for
abbrev pub non_zero_value : List ℕ → NonZeroU8
non_zero_value b = non_zero_of (slice_index b 0)

-- that signed number, and 1 for 0
abbrev pub signed_non_zero_of : ℤ → NonZeroI8
signed_non_zero_of (pos zero) = record { value = pos 1; ok = zero-lt-suc 0 }
signed_non_zero_of (pos (suc n)) = record { value = pos (suc n); ok = zero-lt-suc n }
signed_non_zero_of (negsuc n) = record { value = negsuc n; ok = zero-lt-suc n }

-- a number that is known not to be 0 is itself
pub of_value : (n : ℕ) → (h : 0 < n) → non_zero_of n ≡ record { value = n; ok = h }
of_value zero h = absurd (omega (arith, h))
of_value (suc n) h = ap (λ (p : 0 < suc n). record { value = suc n; ok = p })
    (le_prop (zero-lt-suc n) h)

-- the same of a signed number
pub of_signed_value : (z : ℤ) → (h : 0 < unsigned_abs z) → signed_non_zero_of z ≡
    record { value = z; ok = h }
of_signed_value (pos zero) h = absurd (omega (arith, h))
of_signed_value (pos (suc n)) h = ap (λ (p : 0 < suc n). record { value = pos (suc n); ok = p })
    (le_prop (zero-lt-suc n) h)
of_signed_value (negsuc n) h = ap (λ (p : 0 < suc n). record { value = negsuc n; ok = p })
    (le_prop (zero-lt-suc n) h)

fault_of : (n : ℕ) → 0 < n → zero_fault n ≡ None
fault_of zero h = absurd (omega (arith, h))
fault_of (suc n) h = refl

-- a good chunk is its byte
pub value_of : (n : ℕ) → zero_fault n ≡ None → (non_zero_of n).value ≡ n
value_of zero h = cc
value_of (suc n) h = refl

-- a number other than 0 is stored as its byte
pub non_zero_spelling : IsSpelling {V = NonZeroU8} (λ v. v.value < 2 ^ 8) 1 non_zero_fault
    (λ v. v.value ∷ []) non_zero_value
non_zero_spelling = record {
  writes = λ v h. record {
    each = more_bytes v.value [] h no_bytes;
    long = refl;
    good = fault_of v.value v.ok;
  };
  back = λ v h. of_value v.value v.ok;
  reads = λ b h. rw (value_of (slice_index b 0) h.good) (h.each.at 0);
  again = λ b h. ap (λ n. n ∷ []) (value_of (slice_index b 0) h.good) ∙ one_byte b h.long;
}

-- what is 0 only where m is, m being more than 0
positive : (n m : ℕ) → (n ≡ 0 → m ≡ 0) → 0 < m → 0 < n
positive zero m h k = absurd (omega (arith, h refl, k))
positive (suc n) m h k = zero-lt-suc n

size_zero : (z : ℤ) → unsigned_abs z ≡ 0 → z ≡ pos 0
size_zero (pos n) e = ap pos e
size_zero (negsuc n) e = absurd (omega (arith, e))

-- a signed number other than 0 is stored as the unsigned one of its bits
pub signed_non_zero_twin : IsTwin {V = NonZeroI8} {U = NonZeroU8} (λ v. FitsSigned w8 v.value)
    (λ u. u.value < 2 ^ 8) (λ v. non_zero_of (cast_unsigned w8 v.value))
    (λ u. signed_non_zero_of (cast_signed w8 u.value))
signed_non_zero_twin =
    let t = sign_twin w8 in
    let to = λ (v : NonZeroI8) (h : FitsSigned w8 v.value). of_value (cast_unsigned w8 v.value)
    (positive (cast_unsigned w8 v.value) (unsigned_abs v.value)
    (λ e. ap unsigned_abs (sym (t.back v.value h) ∙ ap (cast_signed w8) e)) v.ok) in
    let from = λ (u : NonZeroU8) (h : u.value < 2 ^ 8). of_signed_value (cast_signed w8 u.value)
    (positive (unsigned_abs (cast_signed w8 u.value)) u.value
    (λ e. sym (t.again u.value h) ∙ ap (cast_unsigned w8) (size_zero (cast_signed w8 u.value) e))
    u.ok) in
    record {
      stored = λ v h. subst (λ (u : NonZeroU8). u.value < 2 ^ 8) (sym (to v h))
          (t.stored v.value h);
      back = λ v h. ap (λ (u : NonZeroU8). signed_non_zero_of (cast_signed w8 u.value)) (to v h) ∙
          ap signed_non_zero_of (t.back v.value h) ∙ of_signed_value v.value v.ok;
      taken = λ u h. subst (λ (v : NonZeroI8). FitsSigned w8 v.value) (sym (from u h))
          (t.taken u.value h);
      again = λ u h. ap (λ (v : NonZeroI8). non_zero_of (cast_unsigned w8 v.value)) (from u h) ∙
          ap non_zero_of (t.again u.value h) ∙ of_value u.value u.ok;
    }
