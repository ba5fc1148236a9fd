-- A text that is no number's is no decimal.
use Rattle.std.proofs.Common.{◌≡◌, ℕ, suc, ◌^◌, ◌<◌, List, Bool, true, false, ℤ, pos, negsuc, Option, Some, None}
use Rattle.std.proofs.Common.{Result, Ok, decimal, bytes_eq, option_and_then, if◌then◌else◌, nat_lt, neg_ℤ, ◌∷◌, ltb-true, refl, sym, ap, ◌∙◌, subst, arith}
use Rattle.std.proofs.lemmas.Fmt.{decimal_is_IsNumeral_wide, parse-decimal_wide}
use Rattle.std.proofs.lemmas.Result.{Ok-from_Ok_iff}
use Rattle.std.proofs.lemmas.Slice.Eq.{bytes_eq-Decides}
use Rattle.std.proofs.lemmas.Str.Parse.{numerals_by_value, tells_digits, parse_signed_minus, parse_signed_digits}
use Rattle.std.specs.Fmt.{signed_decimal}
use Rattle.std.specs.Int.{w128}
use Rattle.std.specs.Result.{result_ok}
use Rattle.std.specs.Str.Parse.{ParsesSigned, ParsesUnsigned, signed_digits_value}
use Rattle.zv_json.specs.Numbers.{number_key, signed_within, unsigned_within}

if_some : {A : Type 0} (b : Bool) (x y : A) → (if b then Some x else None) ≡ Some y → b ≡ true
if_some true x y e = refl
if_some false x y e = cc

missed : {A B : Type 0} (within : A → Option B) (z : A) (b : Bool) (o : Option B) → within z ≡ o → (b ≡ true → (y : B) → o ≡ Some y → ⊥)
    → None ≡ option_and_then within (if b then Some z else None)
missed within z false o e h = refl
missed within z true None e h = sym e
missed within z true (Some y) e h = absurd (h refl y refl)

signed_read : {E : Type 0} (z y : ℤ) (text : List ℕ) (r : Result ℤ E) → signed_within 128 z ≡ Some y → signed_decimal z ≡ text → ParsesSigned w128 10 text r
    → r ≡ Ok z
signed_read (pos n) y text r some is h =
    let fits : n < 2 ^ 127 = ltb-true _ _ (if_some (nat_lt n (2 ^ 127)) (pos n) y some) in
    let k = decimal_is_IsNumeral_wide n (omega (arith, fits)) in
    let read = parse_signed_digits (numerals_by_value _ tells_digits) w128 (decimal n) r (subst (λ l. ParsesSigned w128 10 l r) (sym is) h) k.0.1 in
    Ok-from_Ok_iff r _ _ read (k.0.0, omega (arith, k.1, fits)) ∙ ap (λ m. Ok (pos m)) k.1
signed_read (negsuc n) y text r some is h =
    let fits : n < 2 ^ 127 = ltb-true _ _ (if_some (nat_lt n (2 ^ 127)) (negsuc n) y some) in
    let k = decimal_is_IsNumeral_wide (suc n) (omega (arith, fits)) in
    let read = parse_signed_minus (numerals_by_value _ tells_digits) w128 (45 ∷ decimal (suc n)) r (subst (λ l. ParsesSigned w128 10 l r) (sym is) h) refl in
    Ok-from_Ok_iff r _ _ read (k.0.1, k.0.0, omega (arith, k.1, fits)) ∙ ap (λ m. Ok (neg_ℤ (pos m))) k.1

unsigned_read : {E : Type 0} (z : ℤ) (y : ℕ) (text : List ℕ) (r : Result ℕ E) → unsigned_within 128 z ≡ Some y → signed_decimal z ≡ text
    → ParsesUnsigned 128 10 text r → (n : ℕ) × (r ≡ Ok n)
unsigned_read (pos n) y text r some is h =
    let fits : n < 2 ^ 128 = ltb-true _ _ (if_some (nat_lt n (2 ^ 128)) n y some) in
    (n, parse-decimal_wide 128 n text r fits (omega (arith, fits)) (sym is) h)
unsigned_read (negsuc n) y text r some is h = cc

not_ok : {A E : Type 0} (r : Result A E) (x : A) → r ≡ Ok x → result_ok r ≡ None → ⊥
not_ok r x e none = cc

-- a text that is not read as a number with a sign is none's decimal
pub signed_missed : {E : Type 0} (text : List ℕ) (r : Result ℤ E) → ParsesSigned w128 10 text r → result_ok r ≡ None
    → None ≡ option_and_then (signed_within 128) (number_key text)
signed_missed text r h none =
    let z = signed_digits_value 10 text in
    missed (signed_within 128) z (bytes_eq (signed_decimal z) text) _ refl
    (λ t y some. not_ok r z (signed_read z y text r some ((bytes_eq-Decides (signed_decimal z) text).0 t) h) none)

-- and one that is not read as a number without a sign is none's
pub unsigned_missed : {E : Type 0} (text : List ℕ) (r : Result ℕ E) → ParsesUnsigned 128 10 text r → result_ok r ≡ None
    → None ≡ option_and_then (unsigned_within 128) (number_key text)
unsigned_missed text r h none =
    let z = signed_digits_value 10 text in
    missed (unsigned_within 128) z (bytes_eq (signed_decimal z) text) _ refl
    (λ t y some. let p = unsigned_read z y text r some ((bytes_eq-Decides (signed_decimal z) text).0 t) h in not_ok r p.0 p.1 none)
