-- Numbers of two bytes and more, and signed numbers: they are stored and read back.
use Rattle.std.proofs.Common.{◌≡◌, ℕ, zero, suc, ◌+◌, ◌*◌, ◌/◌, ◌%◌, ◌^◌, ◌<◌, List, [], ◌∷◌}
use Rattle.std.proofs.Common.{length, drop, None, refl, ap, sym, ◌∙◌, arith, slice_index, subst}
use Rattle.std.proofs.Math.Nat.{div-div-eq-div-mul, pow-suc}
use Rattle.std.proofs.Math.Seq.{drop-cons}
use Rattle.std.proofs.lemmas.List.{drop_all}
use Rattle.std.proofs.lemmas.Int.{to_z-of_z, of_z-to_z}
use Rattle.std.proofs.Math.Facts.{Fits-of_z, sfits_to_z, Fits-of_lt}
use Rattle.std.specs.Int.{Width, w8, w32, byte_at, byte_worth, bytes_low_first}
use Rattle.std.specs.Int.{sum_through, to_le_bytes, from_le_bytes, cast_signed, cast_unsigned}
use Rattle.std.specs.Prelude.{ℤ, FitsSigned}
use mir.Val.{bits}
use Rattle.zv_ule.specs.declared.fixed.raw_bytes.RawBytesULE.{RawBytesULE}
use Rattle.zv_ule.specs.Bytes.{IsBytes, IsRaw, le, number}
use Rattle.zv_ule.specs.Fixed.{IsSpelling, IsTwin}
use Rattle.zv_ule.specs.laws.Spellings.{byte_spelling, more_bytes, through_twin}
use Rattle.zv_ule.specs.laws.Fields.{number-le, le-number_at, length-le, number_below}

-- byte i is the lowest of what is left without those below it
low_byte : (i n : ℕ) → byte_at i n ≡ n / 256 ^ i % 256
low_byte zero n = omega arith
low_byte (suc i) n = refl

-- the bytes from byte i upward are those of what is left
upward : (i k n : ℕ) → bytes_low_first i k n ≡ le k (n / 256 ^ i)
upward i zero n = refl
upward i (suc k) n =
    let e : n / 256 ^ i / 256 ≡ n / 256 ^ suc i = div-div-eq-div-mul n (256 ^ i) 256 ∙
    ap (λ p. n / p) (sym (pow-suc 256 i)) in
    λ j. low_byte i n j ∷ (upward (suc i) k n ∙ ap (le k) (sym e)) j

worth : (a x n : ℕ) → a * (x + 256 * n) ≡ x * a + (a * 256) * n
worth a x n = grind arith

-- the worth of the bytes up to byte k, and the number of those above
downward : (b : List ℕ) (k : ℕ) → k < length b →
    number b ≡ sum_through (λ i. byte_worth i (slice_index b i)) k + 256 ^ suc k * number
    (drop (suc k) b)
downward [] zero h = absurd (omega (arith, h))
downward (x ∷ b) zero h = omega arith
downward b (suc k) h =
    let ih = downward b k (omega (arith, h)) in
    let above : ℕ = number (drop (suc (suc k)) b) in
    let here = ap (λ m. 256 ^ suc k * m) (ap number (drop-cons b (suc k) 0 h)) in
    let parts = worth (256 ^ suc k) (slice_index b (suc k)) above in
    let power = ap (λ p. p * above) (pow-suc 256 (suc k)) in
    omega (arith, ih, here, parts, power)

-- what the bytes of a number of k + 1 bytes are read as
read_all : (b : List ℕ) (k : ℕ) → length b ≡ suc k →
    sum_through (λ i. byte_worth i (slice_index b i)) k ≡ number b
read_all b k h =
    let none : drop (suc k) b ≡ [] = drop_all (suc k) b (omega (arith, h)) in
    let empty = ap (λ l. 256 ^ suc k * number l) none in
    omega (arith, downward b k (omega (arith, h)), empty)

small_bytes : (w n : ℕ) → IsBytes (le w n)
small_bytes zero n = record { at = λ i. omega arith }
small_bytes (suc w) n = more_bytes (n % 256) _ (omega arith) (small_bytes w (n / 256))

-- a number below 256 ^ (k + 1) is k + 1 bytes, the lowest first
pub number_twin : (k : ℕ) → IsTwin {V = ℕ} {U = RawBytesULE (suc k)} (λ v. v < 256 ^ suc k)
    (λ u. IsRaw (suc k) u.0) (λ v. record { 0 = bytes_low_first 0 (suc k) v })
    (λ u. sum_through (λ i. byte_worth i (slice_index u.0 i)) k)
number_twin k =
    let whole : (v : ℕ) → v / 256 ^ 0 ≡ v = λ v. omega arith in
    let written = λ (v : ℕ). upward 0 (suc k) v ∙ ap (le (suc k)) (whole v) in
    let long = λ (v : ℕ). ap length (written v) ∙ length-le (suc k) v in
    record {
      stored = λ v h. record {
        each = subst IsBytes (sym (written v)) (small_bytes (suc k) v);
        long = long v;
      };
      back = λ v h. read_all (bytes_low_first 0 (suc k) v) k (long v) ∙ ap number (written v) ∙
          number-le (suc k) v h;
      taken = λ u h. subst (λ n. n < 256 ^ suc k) (sym (read_all u.0 k h.long))
          (number_below (suc k) u.0 h.long h.each);
      again = λ u h. ap (λ b. record { 0 = b })
          (written (sum_through (λ i. byte_worth i (slice_index u.0 i)) k) ∙ ap (le (suc k))
          (read_all u.0 k h.long) ∙ le-number_at (suc k) u.0 h.long h.each);
    }

-- a number of 32 bits is four
pub u32_twin : IsTwin {V = ℕ} {U = RawBytesULE 4} (λ v. v < 2 ^ 32) (λ u. IsRaw 4 u.0)
    (λ v. record { 0 = to_le_bytes w32 v }) (λ u. from_le_bytes w32 u.0)
u32_twin = number_twin 3

-- a signed number stands for the unsigned one of its bits
pub sign_twin : (w : Width) → IsTwin {V = ℤ} {U = ℕ} (FitsSigned w) (λ v. v < 2 ^ bits w)
    (cast_unsigned w) (cast_signed w)
sign_twin w = record {
  stored = λ v h. (Fits-of_z h).fits;
  back = λ v h. to_z-of_z w v h;
  taken = λ u h. sfits_to_z (Fits-of_lt h);
  again = λ u h. of_z-to_z w u h;
}

-- a signed byte is stored as the byte of its bits
pub signed_byte_spelling : IsSpelling {V = ℤ} (λ v. FitsSigned w8 v) 1 (λ _. None)
    (λ v. cast_unsigned w8 v ∷ []) (λ b. cast_signed w8 (slice_index b 0))
signed_byte_spelling = through_twin (sign_twin w8) byte_spelling
