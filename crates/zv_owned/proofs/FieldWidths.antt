-- Fields that are made wider or narrower one after another.
use Rattle.zv_owned.proofs.Common.{◌*◌, ◌++◌, ◌+◌, ◌-◌, ◌<◌, ◌∙◌, ◌∷◌, ◌≡◌, ◌≤◌, All-from_recursion, List, [], ap, append-nil, append_assoc, arith, drop}
use Rattle.zv_owned.proofs.Common.{drop-drop, drop_at, flat_map, flat_map-append, get_or, le, length, length-append, length-drop, length-flat_map-le}
use Rattle.zv_owned.proofs.Common.{length-le, length-take-le, refl, sym, take, take-append-drop, take-append-le, take_at, ℕ}
use Rattle.std.proofs.Common.{◌%◌}
use Rattle.std.proofs.Math.Nat.{mod-eq_of_lt}
use Rattle.std.proofs.lemmas.List.{at_drop_more, drop-take, drop_all, take-take, take_all, take_more}
use Rattle.zv_ule.proofs.Fields.{number-le}
use Rattle.zv_ule.specs.Bytes.{number}
use Rattle.zv_owned.specs.Widths.{AreNarrow, IsNarrowed}

-- the first k fields have two bytes, those after them four, and then comes t
pub record HasWidths (b : List ℕ) (k : ℕ) (ss t : List ℕ) : Type 0 where
  pub front : take (2 * k) b ≡ flat_map (le 2) (take k ss)
  pub back : drop (4 * k) b ≡ flat_map (le 4) (drop k ss) ++ t

-- one field more at the front
front_more : (w : ℕ) (ss : List ℕ) (k : ℕ) → k < length ss → flat_map (le w) (take (k + 1) ss) ≡ flat_map (le w) (take k ss) ++ le w (get_or ss k 0)
front_more w ss k h =
    let e : flat_map (le w) (get_or ss k 0 ∷ []) ≡ le w (get_or ss k 0) = append-nil (le w (get_or ss k 0)) in
    rw (take_more ss k 0 h, flat_map-append, e) refl

front_long : (w : ℕ) (ss : List ℕ) (k : ℕ) → k ≤ length ss → length (flat_map (le w) (take k ss)) ≡ w * k
front_long w ss k h = rw (length-flat_map-le, length-take-le k ss h) refl

back_more : (w : ℕ) (ss t : List ℕ) (k : ℕ) → k < length ss →
    flat_map (le w) (drop k ss) ++ t ≡ le w (get_or ss k 0) ++ (flat_map (le w) (drop (k + 1) ss) ++ t)
back_more w ss t k h = ap (λ (l : List ℕ). l ++ t) (at_drop_more (flat_map (le w)) ss k 0 h)
    ∙ append_assoc (le w (get_or ss k 0)) (flat_map (le w) (drop (k + 1) ss)) t

fits : (ss : List ℕ) (k : ℕ) → AreNarrow ss → k < length ss → get_or ss k 0 < 65536
fits ss k small h = All-from_recursion (λ s. s < 65536) ss small k 0 h

-- one turn: the field before place j is read as r and written wide
pub one_widened : {b field : List ℕ} {at to j k r : ℕ} (ss t : List ℕ) → j ≡ k + 1 → at ≡ 2 * k → to ≡ 4 * k → k < length ss → 4 * j ≤ length b →
    AreNarrow ss → HasWidths b j ss t → r ≡ number (take (at + 2 - at) (drop at b)) → field ≡ le 4 r →
    HasWidths (take to b ++ (field ++ drop (to + 4 - to) (drop to b))) k ss t
one_widened {b} {field} {at} {to} {j} {k} {r} ss t ej ea et h long small was er ef =
    let s : ℕ = get_or ss k 0 in
    let p : List ℕ = flat_map (le 2) (take k ss) in
    let plong : length p ≡ 2 * k = front_long 2 ss k (omega arith) in
    let two : at + 2 - at ≡ 2 = omega arith in
    let four : to + 4 - to ≡ 4 = omega arith in
    let j2 : 2 * j ≡ 2 * k + 2 = omega arith in
    let j4 : 4 * j ≡ 4 * k + 4 = omega arith in
    let narrow : take (2 * k + 2) b ≡ p ++ le 2 s = ap (λ n. take n b) (sym j2) ∙ was.front ∙ ap (λ n. flat_map (le 2) (take n ss)) ej ∙ front_more 2 ss k h in
    let front : take (2 * k) b ≡ p = sym (take-take (2 * k) (2 * k + 2) b (omega arith)) ∙ ap (take (2 * k)) narrow ∙ take_at p (le 2 s) (2 * k) plong in
    let there : take 2 (drop (2 * k) b) ≡ le 2 s = sym (drop-take (2 * k) 2 b) ∙ ap (drop (2 * k)) narrow ∙ drop_at p (le 2 s) (2 * k) plong in
    let read : r ≡ s = er ∙ rw (two, ea, there) (number-le 2 s (omega (arith, fits ss k small h))) in
    let tlong : length (take to b) ≡ 4 * k = rw et (length-take-le (4 * k) b (omega arith)) in
    let rest : drop (to + 4 - to) (drop to b) ≡ flat_map (le 4) (drop (k + 1) ss) ++ t =
    rw (four, et) (drop-drop 4 (4 * k) b ∙ ap (λ n. drop n b) (sym j4) ∙ was.back ∙ ap (λ n. flat_map (le 4) (drop n ss) ++ t) ej) in
    let z : List ℕ = field ++ drop (to + 4 - to) (drop to b) in
    record {
      front = take-append-le (2 * k) (take to b) z (omega (arith, tlong)) ∙ take-take (2 * k) to b (omega arith) ∙ front;
      back = drop_at (take to b) z (4 * k) tlong ∙ rw (rest, ef, read) (sym (back_more 4 ss t k h));
    }

-- one turn: the field at place k is read as r and written narrow
pub one_narrowed : {b field : List ℕ} {at to k r n : ℕ} (ss t : List ℕ) → at ≡ 4 * k → to ≡ 2 * k → k < length ss → 4 * (k + 1) ≤ length b →
    AreNarrow ss → HasWidths b k ss t → r ≡ number (take (at + 4 - at) (drop at b)) → n ≡ r % 65536 → field ≡ le 2 n →
    HasWidths (take to b ++ (field ++ drop (to + 2 - to) (drop to b))) (k + 1) ss t
one_narrowed {b} {field} {at} {to} {k} {r} {n} ss t ea et h long small was er en ef =
    let s : ℕ = get_or ss k 0 in
    let q : List ℕ = flat_map (le 4) (drop (k + 1) ss) ++ t in
    let four : at + 4 - at ≡ 4 = omega arith in
    let two : to + 2 - to ≡ 2 = omega arith in
    let back : drop (4 * k) b ≡ le 4 s ++ q = was.back ∙ back_more 4 ss t k h in
    let small_s = fits ss k small h in
    let there : take 4 (drop (4 * k) b) ≡ le 4 s = ap (take 4) back ∙ take_at (le 4 s) q 4 (length-le 4 s) in
    let read : r ≡ s = er ∙ rw (four, ea) (ap number there ∙ number-le 4 s (omega (arith, small_s))) in
    let wrote : field ≡ le 2 s = ef ∙ ap (le 2) (en ∙ ap (λ x. x % 65536) read ∙ mod-eq_of_lt small_s) in
    let tlong : length (take to b) ≡ 2 * k = rw et (length-take-le (2 * k) b (omega arith)) in
    let first : take to b ≡ flat_map (le 2) (take k ss) = rw et was.front in
    let x : List ℕ = take to b ++ le 2 s in
    let xlong : length x ≡ 2 * (k + 1) = omega (arith, length-append (take to b) (le 2 s), tlong, length-le 2 s) in
    let d : List ℕ = drop (to + 2 - to) (drop to b) in
    let is : take to b ++ (field ++ d) ≡ x ++ d = rw wrote (sym (append_assoc (take to b) (le 2 s) d)) in
    let more : 4 * (k + 1) ≡ 2 * (k + 1) + 2 * (k + 1) = omega arith in
    let whole : 4 * (k + 1) ≡ 4 * k + 4 = omega arith in
    let after : 2 * (k + 1) ≡ 2 * k + 2 = omega arith in
    let behind : d ≡ drop (2 * (k + 1)) b = rw (two, et) (drop-drop 2 (2 * k) b ∙ ap (λ i. drop i b) (sym after)) in
    record {
      front = ap (take (2 * (k + 1))) is ∙ take_at x d (2 * (k + 1)) xlong ∙ ap (λ (l : List ℕ). l ++ le 2 s) first ∙ sym (front_more 2 ss k h);
      back = ap (drop (4 * (k + 1))) is
          ∙ ap (λ i. drop i (x ++ d)) more ∙ sym (drop-drop (2 * (k + 1)) (2 * (k + 1)) (x ++ d))
          ∙ ap (drop (2 * (k + 1))) (drop_at x d (2 * (k + 1)) xlong ∙ behind)
          ∙ drop-drop (2 * (k + 1)) (2 * (k + 1)) b ∙ ap (λ i. drop i b) (sym more ∙ whole) ∙ sym (drop-drop 4 (4 * k) b)
          ∙ ap (drop 4) back ∙ drop_at (le 4 s) q 4 (length-le 4 s);
    }

-- before the first turn
pub narrow_all : {b : List ℕ} {n : ℕ} (ss g t : List ℕ) → length ss ≡ n → length g ≡ 2 * n → b ≡ flat_map (le 2) ss ++ (g ++ t) → HasWidths b n ss t
narrow_all {b} {n} ss g t count gap is =
    let p : List ℕ = flat_map (le 2) ss in
    let plong : length p ≡ 2 * n = rw (length-flat_map-le, count) refl in
    let all : take n ss ≡ ss = take_all n ss (omega arith) in
    let none : drop n ss ≡ [] = drop_all n ss (omega arith) in
    let long : length (p ++ g) ≡ 4 * n = omega (arith, length-append p g) in
    record {
      front = rw (is, all) (take_at p (g ++ t) (2 * n) plong);
      back = rw (is, ← append_assoc p g t) (drop_at (p ++ g) t (4 * n) long ∙ ap (λ (l : List ℕ). flat_map (le 4) l ++ t) (sym none));
    }

pub wide_all : {b : List ℕ} (ss t : List ℕ) → b ≡ flat_map (le 4) ss ++ t → HasWidths b 0 ss t
wide_all ss t is = record { front = refl; back = is }

-- after the last one
pub narrowed : {b : List ℕ} {n : ℕ} (ss t : List ℕ) → length ss ≡ n → 4 * n ≤ length b → HasWidths b n ss t → IsNarrowed ss t b
narrowed {b} {n} ss t count long was =
    let rest : List ℕ = drop (2 * n) b in
    let left : List ℕ = take (2 * n) rest in
    let all : take n ss ≡ ss = take_all n ss (omega arith) in
    let none : drop n ss ≡ [] = drop_all n ss (omega arith) in
    let four : 4 * n ≡ 2 * n + 2 * n = omega arith in
    let end : drop (2 * n) rest ≡ t =
    drop-drop (2 * n) (2 * n) b ∙ ap (λ i. drop i b) (sym four) ∙ was.back ∙ ap (λ (l : List ℕ). flat_map (le 4) l ++ t) none in
    let split : rest ≡ left ++ t = sym (take-append-drop (2 * n) rest) ∙ ap (λ (l : List ℕ). left ++ l) end in
    let size : length left ≡ 2 * n = length-take-le (2 * n) rest (omega (arith, length-drop (2 * n) b)) in
    record {
      left = left;
      is = sym (take-append-drop (2 * n) b) ∙ ap (λ (l : List ℕ). l ++ rest) (was.front ∙ ap (flat_map (le 2)) all)
          ∙ ap (λ (l : List ℕ). flat_map (le 2) ss ++ l) split;
      long = omega (arith, size, count);
    }
