-- Four bytes compare as the number that they are.
use Rattle.zv_ule.proofs.Common.{◌≡◌, ℕ, ◌+◌, ◌*◌, ◌<◌, ◌≤◌, List, [], ◌∷◌, length, drop, take, get_or, refl, sym}
use Rattle.zv_ule.proofs.Common.{ap, ◌∙◌, suc, zero}
use Rattle.zv_ule.proofs.Common.{arith, nat_cmp_is, slice_cmp, nat_cmp, ordering_then, Ordering, Less, Equal, Greater}
use Rattle.std.proofs.Common.{Fits, w8}
use Rattle.std.proofs.Math.Nat.{mul-le-mul_right}
use Rattle.std.proofs.lemmas.List.{length-take-le, get_or-take}
use Rattle.std.proofs.lemmas.Nat.{be_bytes_4}
use Rattle.std.specs.Cmp.{ranked}
use Rattle.std.specs.Int.{from_be_bytes, to_be_bytes, w32}
use Rattle.std.specs.Ordering.{MatchOrdering}
use Rattle.zv_ule.specs.Fronts.{OrdersFront}
use Rattle.zv_ule.proofs.Fronts.{front_first}

abbrev pub AreBytes : List ℕ → Type 0
AreBytes xs = (i : ℕ) → Fits w8 (get_or xs i 0)

-- one digit more: the digits before it decide, and where they are equal it does
digit : (base a b m n : ℕ) → m < base → n < base → ordering_then (nat_cmp a b) (nat_cmp m n) ≡ nat_cmp (a * base + m) (b * base + n)
digit base a b m n lm ln = nat_cmp_is (a * base + m) (b * base + n) _ (by (nat_cmp a b) (nat_cmp m n) (ranked a b _ refl) (ranked m n _ refl))
  where
    less : (a b m n : ℕ) → m < base → a < b → a * base + m < b * base + n
    less a b m n lm h = omega (arith, mul-le-mul_right base h)

    by : (o p : Ordering) → MatchOrdering o (a < b) (a ≡ b) (b < a) → MatchOrdering p (m < n) (m ≡ n) (n < m)
        → MatchOrdering (ordering_then o p) (a * base + m < b * base + n) (a * base + m ≡ b * base + n) (b * base + n < a * base + m)
    by Less p h l = less a b m n lm h
    by Greater p h l = less b a n m ln h
    by Equal Less h l = omega (arith, ap (λ k. k * base) h)
    by Equal Equal h l = omega (arith, ap (λ k. k * base) h)
    by Equal Greater h l = omega (arith, ap (λ k. k * base) h)

then_assoc : (a b c : Ordering) → ordering_then (ordering_then a b) c ≡ ordering_then a (ordering_then b c)
then_assoc Less b c = refl
then_assoc Equal b c = refl
then_assoc Greater b c = refl

four : (a : List ℕ) → 4 ≤ length a → a ≡ get_or a 0 0 ∷ (get_or a 1 0 ∷ (get_or a 2 0 ∷ (get_or a 3 0 ∷ drop 4 a)))
four [] long = absurd (omega arith)
four (a ∷ []) long = absurd (omega arith)
four (a ∷ (b ∷ [])) long = absurd (omega arith)
four (a ∷ (b ∷ (c ∷ []))) long = absurd (omega arith)
four (a ∷ (b ∷ (c ∷ (d ∷ rest)))) long = refl

by_four : (a b : List ℕ) → 4 ≤ length a → 4 ≤ length b → AreBytes a → AreBytes b
    → ordering_then (nat_cmp (from_be_bytes w32 a) (from_be_bytes w32 b)) (slice_cmp nat_cmp (drop 4 a) (drop 4 b)) ≡ slice_cmp nat_cmp a b
by_four a b la lb fa fb =
    let at : List ℕ → ℕ → ℕ = λ xs k. get_or xs k 0 in
    let byte : ℕ → Ordering = λ k. nat_cmp (at a k) (at b k) in
    let after : Ordering = slice_cmp nat_cmp (drop 4 a) (drop 4 b) in
    let whole : (xs : List ℕ) → ((at xs 0 * 256 + at xs 1) * 256 + at xs 2) * 256 + at xs 3 ≡ from_be_bytes w32 xs = λ xs. omega arith in
    let two = digit 256 (at a 0) (at b 0) (at a 1) (at b 1) (omega (arith, fa 1)) (omega (arith, fb 1)) in
    let three = digit 256 (at a 0 * 256 + at a 1) (at b 0 * 256 + at b 1) (at a 2) (at b 2) (omega (arith, fa 2)) (omega (arith, fb 2)) in
    let front : List ℕ → ℕ = λ xs. (at xs 0 * 256 + at xs 1) * 256 + at xs 2 in
    let all = digit 256 (front a) (front b) (at a 3) (at b 3) (omega (arith, fa 3)) (omega (arith, fb 3)) in
    let word : ordering_then (ordering_then (ordering_then (byte 0) (byte 1)) (byte 2)) (byte 3) ≡ nat_cmp (from_be_bytes w32 a) (from_be_bytes w32 b) =
    ap (λ o. ordering_then (ordering_then o (byte 2)) (byte 3)) two ∙ ap (λ o. ordering_then o (byte 3)) three ∙ all
    ∙ (λ i. nat_cmp (whole a i) (whole b i)) in
    ap (λ o. ordering_then o after) (sym word) ∙ then_assoc (ordering_then (ordering_then (byte 0) (byte 1)) (byte 2)) (byte 3) after
    ∙ then_assoc (ordering_then (byte 0) (byte 1)) (byte 2) (ordering_then (byte 3) after) ∙ then_assoc (byte 0) (byte 1) _
    ∙ (λ i. slice_cmp nat_cmp (sym (four a la) i) (sym (four b lb) i))

bytes_in : (n : ℕ) (xs : List ℕ) → AreBytes xs → (i : ℕ) → get_or (take n xs) i 0 < 256
bytes_in zero xs fits i = omega arith
bytes_in (suc n) [] fits i = omega arith
bytes_in (suc n) (x ∷ xs) fits zero = omega (arith, fits zero)
bytes_in (suc n) (x ∷ xs) fits (suc i) = bytes_in n xs (λ j. fits (suc j)) i

spelled_four : (xs : List ℕ) → 4 ≤ length xs → AreBytes xs → to_be_bytes w32 (from_be_bytes w32 xs) ≡ take 4 xs
spelled_four xs long fits =
    let at : (k : ℕ) → k < 4 → get_or (take 4 xs) k 0 ≡ get_or xs k 0 = λ k. get_or-take 4 xs k 0 in
    be_bytes_4 (take 4 xs) (from_be_bytes w32 xs) (length-take-le 4 xs long) (bytes_in 4 xs fits)
    (omega (arith, at 0 (omega arith), at 1 (omega arith), at 2 (omega arith), at 3 (omega arith)))

pub four_first : (a b : List ℕ) (m n : ℕ) (o : Ordering) → 4 ≤ length a → 4 ≤ length b → AreBytes a → AreBytes b
    → m ≡ from_be_bytes w32 a → n ≡ from_be_bytes w32 b → o ≡ nat_cmp m n → OrdersFront a b 4 o
four_first a b m n o la lb fa fb is_m is_n is_o =
    let rest : Ordering = slice_cmp nat_cmp (drop 4 a) (drop 4 b) in
    front_first a b 4 o rest (ap (λ p. ordering_then p rest) (is_o ∙ (λ i. nat_cmp (is_m i) (is_n i))) ∙ by_four a b la lb fa fb)
    (λ equal. sym (spelled_four a la fa) ∙ ap (to_be_bytes w32) (sym is_m ∙ ranked m n Equal (sym equal ∙ is_o) ∙ is_n) ∙ spelled_four b lb fb)
