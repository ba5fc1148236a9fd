-- Fields whose numbers are raised and lowered.
use Rattle.zv_owned.proofs.Common.{[], ◌*◌, ◌++◌, ◌+◌, ◌-◌, ◌<◌, ◌^◌, ◌∙◌, ◌∷◌, ◌≡◌, ◌≤◌, All-from_recursion, CanShift, List, ap, append-nil, append_assoc}
use Rattle.zv_owned.proofs.Common.{arith, drop, drop_at, flat_map, flat_map-append, get_or, le, length, length-append, length-flat_map-le, length-le}
use Rattle.zv_owned.proofs.Common.{length-map, length-take-le, map, refl, shifted, splice, sym, take, take_at, ℕ}
use Rattle.std.proofs.Common.{◌%◌}
use Rattle.std.proofs.Math.Nat.{mod-eq_of_lt}
use Rattle.std.proofs.lemmas.List.{at_drop_more, take_all, map_more}
use Rattle.zv_ule.proofs.Fields.{number-le}
use Rattle.zv_ule.specs.Bytes.{number}

-- One turn of the loop: b are the bytes before it, r the number that is read, n the one that is written.
pub one_shifted : {w v into out at i most r n : ℕ} {b field : List ℕ} (ss : List ℕ) → v ≡ w → at ≡ w * i → most ≡ 256 ^ w - 1 → 256 ^ w ≤ 2 ^ 32 →
    i < length ss → CanShift w into out ss → into < 2 ^ 63 → out < 2 ^ 64 →
    b ≡ flat_map (le w) (map (shifted into out) (take i ss)) ++ flat_map (le w) (drop i ss) → r ≡ number (take (at + v - at) (drop at b)) →
    n ≡ (r + into + (2 ^ 64 - out)) % 2 ^ 64 % (most + 1) → field ≡ le w n →
    take at b ++ (field ++ drop (at + v - at) (drop at b)) ≡ flat_map (le w) (map (shifted into out) (take (i + 1) ss)) ++ flat_map (le w) (drop (i + 1) ss)
one_shifted {w} {v} {into} {out} {at} {i} {most} {r} {n} {b} {field} ss ev ea em narrow h can small top done er en ef =
    let s : ℕ = get_or ss i 0 in
    let p : List ℕ = flat_map (le w) (map (shifted into out) (take i ss)) in
    let q : List ℕ = flat_map (le w) (drop (i + 1) ss) in
    let k = All-from_recursion (λ s. (s < 256 ^ w) × ((out ≤ s + into) × (s + into < out + 256 ^ w))) ss can i 0 h in
    let e : at + v - at ≡ w = omega arith in
    let long : length p ≡ at = rw (length-flat_map-le, length-map, length-take-le i ss (omega arith)) (sym ea) in
    let is : b ≡ p ++ (le w s ++ q) = done ∙ ap (λ (l : List ℕ). p ++ l) (at_drop_more (flat_map (le w)) ss i 0 h) in
    let front : take at b ≡ p = rw is (take_at p (le w s ++ q) at long) in
    let back : drop at b ≡ le w s ++ q = rw is (drop_at p (le w s ++ q) at long) in
    let read : r ≡ s = er ∙ rw (e, back, take_at (le w s) q w (length-le w s)) (number-le w s k.0) in
    let whole : (r + into + (2 ^ 64 - out)) % 2 ^ 64 ≡ shifted into out s = omega (arith, read, k, narrow, small, top) in
    let wrote : n ≡ shifted into out s = en ∙ rw whole (mod-eq_of_lt (omega (arith, k, em))) in
    let new : flat_map (le w) (map (shifted into out) (take (i + 1) ss)) ≡ p ++ le w (shifted into out s) =
    rw (map_more (shifted into out) ss i 0 h, flat_map-append, append-nil (le w (shifted into out s))) refl in
    rw (front, e, back, drop_at (le w s) q w (length-le w s), ef, wrote, new) (sym (append_assoc p (le w (shifted into out s)) q))

-- What a part that was lent leaves, once y stands in it.
pub put_back : (p x q y : List ℕ) {b : List ℕ} {at : ℕ} → b ≡ p ++ (x ++ q) → length p ≡ at → length y ≡ length x →
    take (length b) (splice b at (at + length y) y) ≡ p ++ (y ++ q)
put_back p x q y {b} {at} e h k =
    let front : take at b ≡ p = rw e (take_at p (x ++ q) at h) in
    let rest : drop (at + length y) b ≡ q = rw (e, ← append_assoc p x q) (drop_at (p ++ x) q (at + length y) (omega (arith, length-append p x))) in
    rw (front, rest) (take_all (length b) (p ++ (y ++ q)) (omega (arith, ap length e, length-append {A = ℕ})))

-- the part
pub lent : (p x q : List ℕ) {b : List ℕ} {at n : ℕ} → b ≡ p ++ (x ++ q) → length p ≡ at → length x ≡ n → take n (drop at b) ≡ x
lent p x q {b} {at} {n} e h k = rw (e, drop_at p (x ++ q) at h) (take_at x q n k)

pub not_shifted : (into out : ℕ) (ss : List ℕ) → into ≡ out → map (shifted into out) ss ≡ ss
not_shifted into out [] e = refl
not_shifted into out (s ∷ ss) e = let k : s + into - out ≡ s = omega arith in rw (k, not_shifted into out ss e) refl
