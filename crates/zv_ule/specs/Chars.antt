-- Characters in three bytes.
use Rattle.std.proofs.Common.{◌≡◌, ℕ, ◌+◌, ◌*◌, ◌<◌, ◌^◌, ◌%◌, ◌/◌, List, [], ◌∷◌, length, Option}
use Rattle.std.proofs.Common.{Some, None, refl, arith, slice_index, if◌then◌else◌, true, inl, inr}
use Rattle.std.proofs.Math.Utf8.{scalar, scalar_cases}
use Rattle.std.specs.Char.{IsScalar}
use Rattle.zv_ule.specs.declared.fixed.chars.CharULE.{CharULE}
use Rattle.zv_ule.specs.declared.error.TyName.TheVariants.{Char}
use Rattle.zv_ule.specs.declared.error.UleError.{UleError}
use Rattle.zv_ule.specs.declared.error.UleError.TheVariants.{ParseError}
use Rattle.zv_ule.specs.Bytes.{IsBytes}
use Rattle.zv_ule.specs.Fixed.{IsSpelling, IsTwin}
use Rattle.zv_ule.specs.laws.Spellings.{no_bytes, more_bytes, unless_true, flip}
use Rattle.zv_ule.specs.laws.Spellings.{held_spelling, held_twin}

-- the character that is stored
abbrev pub char_of : CharULE → ℕ
char_of stored = stored.value

-- the number that three bytes spell, the lowest first
abbrev pub char_code : List ℕ → ℕ
char_code b = slice_index b 0 + slice_index b 1 * 256 + slice_index b 2 * 65536

-- the low three bytes of a character's number
abbrev pub char_bytes : ℕ → List ℕ
char_bytes c = c % 256 ∷ (c / 256 % 256 ∷ (c / 65536 % 256 ∷ []))

-- the error of a chunk: a character is at most 0x10FFFF and no surrogate
abbrev pub char_fault : List ℕ → Option UleError
char_fault b = if scalar (char_code b) then None else Some (ParseError Char)

code_back : (c : ℕ) → c < 2 ^ 24 → char_code (char_bytes c) ≡ c
code_back c h = omega arith

-- three bytes are those of the number that they spell
pub bytes_back : (b : List ℕ) → IsBytes b → length b ≡ 3 → char_bytes (char_code b) ≡ b
bytes_back [] h e = absurd (omega (arith, e))
bytes_back (x ∷ []) h e = absurd (omega (arith, e))
bytes_back (x ∷ y ∷ []) h e = absurd (omega (arith, e))
bytes_back (x ∷ y ∷ z ∷ []) h e =
    let p = h.at 0 in
    let q = h.at 1 in
    let r = h.at 2 in
    let one : (x + y * 256 + z * 65536) % 256 ≡ x = omega (arith, p, q, r) in
    let two : (x + y * 256 + z * 65536) / 256 % 256 ≡ y = omega (arith, p, q, r) in
    let three : (x + y * 256 + z * 65536) / 65536 % 256 ≡ z = omega (arith, p, q, r) in
    rw (one, two, three) refl
bytes_back (x ∷ y ∷ z ∷ w ∷ ws) h e = absurd (omega (arith, e))

scalar_small : (c : ℕ) → scalar c ≡ true → c < 2 ^ 24
scalar_small c h = elim (scalar_cases c h) [ inl p ↦ omega (arith, p) | inr p ↦ omega (arith, p.1) ]

-- a character is stored as the low three bytes of its number
code_spelling : IsSpelling {V = ℕ} IsScalar 3 char_fault char_bytes char_code
code_spelling = record {
  writes = λ c h. record {
    each = more_bytes _ _ (omega arith)
        (more_bytes _ _ (omega arith) (more_bytes _ _ (omega arith) no_bytes));
    long = refl;
    good = rw (code_back c (scalar_small c h), h) refl;
  };
  back = λ c h. code_back c (scalar_small c h);
  reads = λ b h. unless_true (scalar (char_code b)) (ParseError Char) h.good;
  again = λ b h. bytes_back b h.each h.long;
}

-- and so is what holds it
pub char_spelling : IsSpelling {V = CharULE} (λ v. IsScalar v.value) 3 char_fault
    (λ v. char_bytes v.value) (λ b. record { value = char_code b })
char_spelling = held_spelling code_spelling (λ v. v.value) (λ c. record { value = c }) (λ _. refl)
    (λ _. refl)

pub char_twin : IsTwin {V = ℕ} {U = CharULE} IsScalar (λ u. IsScalar u.value)
    (λ v. record { value = v }) (λ u. u.value)
char_twin = flip (held_twin (λ u. u.value) (λ c. record { value = c }) (λ _. refl) (λ _. refl))
