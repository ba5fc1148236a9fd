-- Numbers as bytes: reading and writing them undo each other.
use Rattle.std.proofs.Common.{◌≡◌, ℕ, zero, suc, ◌+◌, ◌*◌, ◌/◌, ◌%◌, ◌^◌, ◌<◌, List, [], ◌∷◌}
use Rattle.std.proofs.Common.{length, refl, ap, ◌∙◌, arith, lit<, subst}
use Rattle.std.proofs.Math.Nat.{mod-add-div, pow-suc, div-lt_iff_lt-mul}
use Rattle.zv_ule.specs.Bytes.{IsBytes, le, number}

pub first_byte : (x : ℕ) (b : List ℕ) → IsBytes (x ∷ b) → x < 256
first_byte x b h = h.at 0

pub later_bytes : (x : ℕ) (b : List ℕ) → IsBytes (x ∷ b) → IsBytes b
later_bytes x b h = record { at = λ i. h.at (suc i) }

pub length-le : (w n : ℕ) → length (le w n) ≡ w
length-le zero n = refl
length-le (suc w) n = ap suc (length-le w (n / 256))

pub div_fits : (w n : ℕ) → n < 256 ^ suc w → n / 256 < 256 ^ w
div_fits w n h = let e = pow-suc 256 w in (div-lt_iff_lt-mul (lit< tt)).1 (omega arith)

pub number-le : (w n : ℕ) → n < 256 ^ w → number (le w n) ≡ n
number-le zero n h = omega arith
number-le (suc w) n h = ap (λ k. n % 256 + 256 * k) (number-le w (n / 256) (div_fits w n h)) ∙
    mod-add-div n 256

pub number_bound : (b : List ℕ) → IsBytes b → number b < 256 ^ length b
number_bound [] h = lit< tt
number_bound (x ∷ b) h = omega (
  arith,
  number_bound b (later_bytes x b h),
  first_byte x b h,
  pow-suc 256 (length b),
)

-- Bytes that are read as a number are those that the number is written as.
pub le-number : (b : List ℕ) → IsBytes b → le (length b) (number b) ≡ b
le-number [] h = refl
le-number (x ∷ b) h =
    let q : (x + 256 * number b) / 256 ≡ number b = omega (arith, first_byte x b h) in
    let r : (x + 256 * number b) % 256 ≡ x = omega (arith, first_byte x b h) in
    rw (q, r) (ap (λ l. x ∷ l) (le-number b (later_bytes x b h)))

-- the same at a given width
pub number_below : (w : ℕ) (b : List ℕ) → length b ≡ w → IsBytes b → number b < 256 ^ w
number_below w b e h = subst (λ v. number b < 256 ^ v) e (number_bound b h)

pub le-number_at : (w : ℕ) (b : List ℕ) → length b ≡ w → IsBytes b → le w (number b) ≡ b
le-number_at w b e h = subst (λ v. le v (number b) ≡ b) e (le-number b h)
