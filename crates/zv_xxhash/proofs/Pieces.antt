-- Stripes and words, one more at a time, and bytes in pieces, one after another.
use Rattle.std.proofs.Common.{◌≡◌, ◌≢◌, ℕ, zero, suc, ◌+◌, ◌*◌, ◌/◌, ◌%◌, ◌^◌, ◌<◌, ◌≤◌, nat_le, Bool, true, ◌||◌, List, [], ◌∷◌, ◌++◌, length, take, drop}
use Rattle.std.proofs.Common.{refl, ap, sym, ◌∙◌, arith, length-append, length-drop, drop-drop}
use Rattle.std.proofs.lemmas.Bool.Decides.{nat_tests}
use Rattle.std.proofs.lemmas.List.{drop-append-le, take-append-le, take-append-drop, append_assoc, take_at, drop_at}
use Rattle.zv_xxhash.specs.Held.{Holds}
use Rattle.zv_xxhash.specs.declared.hasher.XxHash64.{XxHash64}
use Rattle.zv_xxhash.specs.Digest.{all_lanes, first_lanes, lanes_after, left_over, with_byte, with_bytes, with_end, with_rest, with_word}

-- fewer bytes than a stripe
pub lanes_few : (lanes b : List ℕ) → length b < 32 → all_lanes lanes b ≡ lanes
lanes_few lanes b few = let none : length b / 32 ≡ 0 = omega arith in rw none

pub left_few : (b : List ℕ) → length b < 32 → left_over b ≡ b
left_few b few = let none : 32 * (length b / 32) ≡ 0 = omega arith in rw none

-- one stripe, and what follows it
pub lanes_step : (lanes b : List ℕ) → 32 ≤ length b → all_lanes lanes b ≡ all_lanes (lanes_after lanes (take 32 b)) (drop 32 b)
lanes_step lanes b long = let more : length b / 32 ≡ suc (length (drop 32 b) / 32) = omega (arith, length-drop 32 b) in rw more

pub left_step : (b : List ℕ) → 32 ≤ length b → left_over b ≡ left_over (drop 32 b)
left_step b long =
    let k : ℕ = 32 * (length (drop 32 b) / 32) in
    let more : 32 * (length b / 32) ≡ 32 + k = omega (arith, length-drop 32 b) in
    ap (λ n. drop n b) more ∙ sym (drop-drop k 32 b)

-- fewer bytes than a word; and one word, and what follows it
pub rest_few : (h : ℕ) (b : List ℕ) → length b < 8 → with_rest h b ≡ with_end h b
rest_few h b few = let none : length b / 8 ≡ 0 = omega arith in let from : 8 * (length b / 8) ≡ 0 = omega arith in rw (from, none)

rest_step : (h : ℕ) (b : List ℕ) → 8 ≤ length b → with_rest h b ≡ with_rest (with_word h b) (drop 8 b)
rest_step h b long =
    let k : ℕ = length (drop 8 b) / 8 in
    let more : length b / 8 ≡ suc k = omega (arith, length-drop 8 b) in
    let from : drop (8 * suc k) b ≡ drop (8 * k) (drop 8 b) = ap (λ n. drop n b) (omega arith) ∙ sym (drop-drop (8 * k) 8 b) in
    rw (more, from)

pub rest_step_more : (h : ℕ) (b others : List ℕ) → 8 ≤ length b → with_rest h (b ++ others) ≡ with_rest (with_word h b) (drop 8 b ++ others)
rest_step_more h b others long =
    rw (take-append-le 8 b others long, drop-append-le 8 b others long) at (rest_step h (b ++ others) (omega (arith, length-append b others)))

-- bytes, and one behind them; and fewer bytes than a word with it, where it fills no half word
bytes_and_last : (h : ℕ) (b : List ℕ) (last : ℕ) → with_bytes h (b ++ last ∷ []) ≡ with_byte (with_bytes h b) last
bytes_and_last h [] last = refl
bytes_and_last h (x ∷ b) last = bytes_and_last (with_byte h x) b last

pub end_and_last : (h : ℕ) (b : List ℕ) (last : ℕ) → length b < 7 → length b ≢ 3 → with_rest h (b ++ last ∷ []) ≡ with_byte (with_end h b) last
end_and_last h b last few no_half =
    let d = last ∷ [] in
    let whole = rest_few h (b ++ d) (omega (arith, length-append b d)) in
    grind (arith, nat_tests, whole, length-append b d, take-append-le 4 b d, drop-append-le 4 b d, bytes_and_last)

-- more bytes go on from the lanes and the bytes left
pub goes_on : (n : ℕ) (lanes m d : List ℕ) → length m / 32 ≡ n
    → (all_lanes lanes (m ++ d) ≡ all_lanes (all_lanes lanes m) (left_over m ++ d)) × (left_over (m ++ d) ≡ left_over (left_over m ++ d))
goes_on zero lanes m d count = rw (lanes_few lanes m (omega arith), left_few m (omega arith)) (refl, refl)
goes_on (suc n) lanes m d count =
    let long : 32 ≤ length m = omega arith in
    let whole : 32 ≤ length (m ++ d) = omega (arith, length-append m d) in
    let later = goes_on n (lanes_after lanes (take 32 m)) (drop 32 m) d (omega (arith, length-drop 32 m)) in
    rw (
      lanes_step lanes (m ++ d) whole,
      left_step (m ++ d) whole,
      lanes_step lanes m long,
      left_step m long,
      take-append-le 32 m d long,
      drop-append-le 32 m d long,
    ) later

-- a stripe of old bytes and the front of new ones, and the rest of these
pub stripe_filled : (n : ℕ) (lanes old new front stripe rest : List ℕ) → stripe ≡ old ++ front → front ≡ take n new → rest ≡ drop n new
    → length stripe ≡ 32
    → (all_lanes (lanes_after lanes stripe) rest ≡ all_lanes lanes (old ++ new)) × (left_over rest ≡ left_over (old ++ new))
stripe_filled n lanes old new front stripe rest is cut left long =
    let joined : stripe ++ rest ≡ old ++ new = rw (is, cut, left) (append_assoc old (take n new) (drop n new) ∙ ap (λ l. old ++ l) (take-append-drop n new)) in
    let whole : 32 ≤ length (stripe ++ rest) = omega (arith, long, length-append stripe rest) in
    rw (
      ← joined,
      lanes_step lanes (stripe ++ rest) whole,
      left_step (stripe ++ rest) whole,
      take_at stripe rest 32 long,
      drop_at stripe rest 32 long,
    ) (refl, refl)

-- ---- the hasher

-- whether there was a whole stripe, with n bytes beside those of stripes
pub few_flag : (flag : Bool) (n : ℕ) → n < 32 → flag ≡ (flag || nat_le 32 n)
few_flag flag n few = grind (arith, nat_tests)

pub many_flag : (flag : Bool) (n : ℕ) → 32 ≤ n → true ≡ (flag || nat_le 32 n)
many_flag flag n many = grind (arith, nat_tests)

striped_more : (n k j : ℕ) → j ≡ n % 32 → (nat_le 32 n || nat_le 32 (j + k)) ≡ nat_le 32 (n + k)
striped_more n k j is = grind (arith, nat_tests)

-- what is held after more bytes
pub holds_more : (h : XxHash64) (start : ℕ) (m d after next : List ℕ) (flag : Bool) → Holds h start m
    → after ≡ all_lanes h.lanes (h.pending ++ d) → next ≡ left_over (h.pending ++ d) → flag ≡ (h.is_striped || nat_le 32 (length h.pending + length d))
    → Holds (record { seed = h.seed; lanes = after; pending = next; total = (h.total + length d) % 2 ^ 64; is_striped = flag }) start (m ++ d)
holds_more h start m d after next flag held lanes_is next_is flag_is =
    let len : length h.pending ≡ length m % 32 = ap length held.kept ∙ omega (arith, length-drop (32 * (length m / 32)) m) in
    let later = goes_on (length m / 32) (first_lanes start) m d refl in
    record {
      seed = held.seed;
      total = omega (arith, held.total, length-append m d);
      striped = flag_is ∙ rw held.striped (striped_more (length m) (length d) (length h.pending) len) ∙ ap (nat_le 32) (sym (length-append m d));
      lanes = lanes_is ∙ rw (held.lanes, held.kept) (sym later.0);
      kept = next_is ∙ rw held.kept (sym later.1);
    }
