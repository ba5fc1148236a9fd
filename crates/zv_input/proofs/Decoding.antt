-- Hex digits that are read by a table, pair after pair.
use Rattle.zv_input.proofs.Common.{◌≡◌, ℕ, ◌+◌, ◌*◌, ◌<◌, ◌≤◌, ◌==◌, true, List, length, take, drop, slice_index, slice_set, Some, None, Ok}
use Rattle.zv_input.proofs.Common.{Err, Option, Result, result_ok, refl, sym, ap, ◌∙◌, arith, append-nil, length-take, bytes_of_digits, Lacks, unwrap_or}
use Rattle.std.proofs.lemmas.Bool.{agree_below, agree_below_at, eqb-true}
use Rattle.std.proofs.lemmas.Bool.Decides.{nat_tests}
use Rattle.std.proofs.lemmas.List.{drop_all, get_or-take}
use Rattle.std.specs.List.{AllPass}
use Rattle.hex.proofs.HexLemmas.{decode_of-even, decode_of-ok}
use Rattle.hex.proofs.Pairs.{decode_start, decode_step, prepend}
use Rattle.hex.specs.declared.error.FromHexError.{FromHexError}
use Rattle.hex.specs.Hex.{decode_of, decode_pairs, hex_digit_value, is_hex_digit, pair_value}

-- ---- the table

-- the value of a digit, or 16
abbrev pub digit_or_16 : ℕ → ℕ
digit_or_16 c = unwrap_or (hex_digit_value c) 16

-- a table that has the value of each byte
pub value_in : (t : List ℕ) (c : ℕ) → agree_below (λ k. slice_index t k == digit_or_16 k) (λ _. true) 256 ≡ true → c < 256 → slice_index t c ≡ digit_or_16 c
value_in t c all lt = eqb-true _ _ (agree_below_at (λ k. slice_index t k == digit_or_16 k) (λ _. true) 256 c all lt)

-- ---- the loop

-- the digits before pair i stand for the bytes in front, also where more pairs follow
pub record IsRead (i : ℕ) (text place : List ℕ) : Type 0 where
  pub digits : bytes_of_digits (take (2 * i) text) ≡ Some (take i place)
  pub before : (n : ℕ) → i ≤ n → decode_pairs 0 (take (2 * n) text) ≡ prepend (take i place) (decode_pairs (2 * i) (drop (2 * i) (take (2 * n) text)))

is_read : (i : ℕ) (text place : List ℕ) → 2 * i ≤ length text
    → ((n : ℕ) → i ≤ n → decode_pairs 0 (take (2 * n) text) ≡ prepend (take i place) (decode_pairs (2 * i) (drop (2 * i) (take (2 * n) text))))
    → IsRead i text place
unfolding decode_pairs
is_read i text place within before =
    let size = length-take (2 * i) text in
    let none = drop_all (2 * i) (take (2 * i) text) (omega (arith, size)) in
    record {
      digits = rw (decode_of-even (take (2 * i) text) (omega (arith, size)), before i (omega arith), none) (ap Some (append-nil (take i place)));
      before = before;
    }

pub read_start : (text place : List ℕ) → IsRead 0 text place
read_start text place = is_read 0 text place (omega arith) (λ n le. decode_start (take (2 * n) text) place)

pair_is : (a b i : ℕ) → digit_or_16 a ≤ 15 → digit_or_16 b ≤ 15 → pair_value a b i ≡ Ok (digit_or_16 a * 16 + digit_or_16 b)
pair_is a b i high low = grind arith

-- one pair more
pub read_more : (text place : List ℕ) (i v : ℕ) → IsRead i text place → 2 * i + 1 < length text → i < length place
    → digit_or_16 (slice_index text (2 * i)) ≤ 15 → digit_or_16 (slice_index text (2 * i + 1)) ≤ 15
    → v ≡ digit_or_16 (slice_index text (2 * i)) * 16 + digit_or_16 (slice_index text (2 * i + 1)) → IsRead (i + 1) text (slice_set place i v)
read_more text place i v was fits room high low byte =
    let pair = pair_is (slice_index text (2 * i)) (slice_index text (2 * i + 1)) (2 * i) high low ∙ ap Ok (sym byte) in
    is_read (i + 1) text (slice_set place i v) (omega arith) (λ n le.
    let first = get_or-take (2 * n) text (2 * i) 0 (omega arith) in
    let second = get_or-take (2 * n) text (2 * i + 1) 0 (omega arith) in
    decode_step (take (2 * n) text) place i v (omega (arith, length-take (2 * n) text)) room (rw (first, second) pair) (was.before n (omega arith)))

-- ---- digits alone

all_digits : (text bytes : List ℕ) → bytes_of_digits text ≡ Some bytes → AllPass is_hex_digit text
all_digits text bytes is = by (decode_of text) refl is
  where
    by : (r : Result (List ℕ) FromHexError) → decode_of text ≡ r → result_ok r ≡ Some bytes → AllPass is_hex_digit text
    by (Ok found) ok same = (decode_of-ok text found ok).1
    by (Err e) err same = cc

-- digits are no spaces
pub lacks_space : (digits bytes : List ℕ) → bytes_of_digits digits ≡ Some bytes → Lacks 32 digits
lacks_space digits bytes is = λ k d lt. let digit = all_digits digits bytes is k d lt in grind (arith, nat_tests)

-- a text with another byte stands for no bytes
pub no_digit : (text : List ℕ) (k : ℕ) → k < length text → 15 < digit_or_16 (slice_index text k)
    → (slice_index text k ≡ slice_index text k) × (bytes_of_digits text ≡ None)
no_digit text k within large = (refl, by (bytes_of_digits text) refl)
  where
    by : (o : Option (List ℕ)) → bytes_of_digits text ≡ o → o ≡ None
    by None is = refl
    by (Some bytes) is = let digit = all_digits text bytes is k 0 within in grind arith
