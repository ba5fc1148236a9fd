-- Bytes moved so that gaps have other lengths.
use Rattle.zv_owned.proofs.Common.{[], ◌++◌, ◌+◌, ◌-◌, ◌<◌, ◌∙◌, ◌≡◌, ◌≤◌, IsRegapped, List, ap, append-nil, append_assoc, arith, drop, drop_at, length}
use Rattle.zv_owned.proofs.Common.{length-append, length-drop, length-take-le, refl, sym, take, take-append-le, take_at, ℕ}
use Rattle.std.proofs.Common.{replicate}
use Rattle.std.proofs.Math.Seq.{drop-append-add, take-append-add}
use Rattle.std.proofs.lemmas.List.{drop-append-le, length-replicate, nil_from_length}
use Rattle.std.specs.List.{copy_within}

-- m moves within the room between p and t
moved : (p x m y t : List ℕ) {old new : List ℕ} (i j to a b : ℕ) → old ≡ p ++ (x ++ (m ++ (y ++ t))) → i ≡ length p + length x → j ≡ i + length m →
    to ≡ length p + a → a + b ≡ length x + length y → new ≡ copy_within old i j to → IsRegapped p a m b t new
moved p x m y t {old} i j to a b is ei ej et room copied =
    let rest : List ℕ = x ++ (m ++ y) in
    let long : length rest ≡ a + length m + b = omega (arith, length-append {A = ℕ}) in
    let n : j - i ≡ length m = omega arith in
    let k : to + length m ≡ length p + (a + length m) = omega arith in
    let part : take (length m) (drop i old) ≡ m = rw (is, ← append_assoc p x, drop_at (p ++ x) (m ++ (y ++ t)) i (omega (arith, length-append p x)))
    (take_at m (y ++ t) (length m) refl) in
    let whole : old ≡ p ++ (rest ++ t) = is ∙ simp append_assoc in
    let front : take to old ≡ p ++ take a rest = rw (whole, et, take-append-add p (rest ++ t) a, take-append-le a rest t (omega arith)) refl in
    let back : drop (to + length m) old ≡ drop (a + length m) rest ++ t =
    rw (k, whole, drop-append-add p (rest ++ t) (a + length m)) (drop-append-le (a + length m) rest t (omega arith)) in
    record {
      first = take a rest;
      second = drop (a + length m) rest;
      is = rw (copied, n, part, front, back) (simp append_assoc);
      first_long = length-take-le a rest (omega arith);
      second_long = length-drop (a + length m) rest ∙ omega arith;
    }

regrouped : (p x m y t : List ℕ) → p ++ (x ++ (m ++ (y ++ t))) ≡ (p ++ (x ++ m)) ++ (y ++ (t ++ []))
regrouped p x m y t = simp (append_assoc, append-nil)

module _ (p g m o t : List ℕ) {bytes : List ℕ} {at f mid s : ℕ} (is : bytes ≡ p ++ (g ++ (m ++ (o ++ t)))) (lp : length p ≡ at) (lg : length g ≡ f)
    (lm : length (p ++ (g ++ m)) ≡ mid) (lo : length o ≡ s) where
  middle : at + f + length m ≡ mid
  middle = omega (arith, length-append {A = ℕ})

  long : length bytes ≡ mid + s + length t
  long = omega (arith, ap length is, middle, length-append {A = ℕ})

  -- they get longer in sum: what stands after them moves first
  pub opened : (a b : ℕ) (b1 b2 b3 : List ℕ) (len n : ℕ) → len ≡ length bytes → n ≡ a + b - (f + s) → f + s < a + b → b1 ≡ bytes ++ replicate n 0 →
      b2 ≡ copy_within b1 (mid + s) len (mid + s + n) → b3 ≡ copy_within b2 (at + f) mid (at + a) → IsRegapped p a m b t b3
  opened a b b1 b2 b3 len n el en up e1 e2 e3 =
      then (moved (p ++ (g ++ m)) o t z [] (mid + s) len (mid + s + n) (s + n) 0 before (omega arith) (omega (arith, long)) (omega arith)
      (omega (arith, lz)) e2) where
        z : List ℕ
        z = replicate n 0

        lz : length z ≡ n
        lz = length-replicate n 0

        before : b1 ≡ (p ++ (g ++ m)) ++ (o ++ (t ++ (z ++ [])))
        before = e1 ∙ rw is (simp (append_assoc, append-nil))

        then : IsRegapped (p ++ (g ++ m)) (s + n) t 0 [] b2 → IsRegapped p a m b t b3
        then r =
            let between : b2 ≡ p ++ (g ++ (m ++ (r.first ++ t))) = r.is ∙ rw (nil_from_length r.second r.second_long) (sym (regrouped p g m r.first t)) in
            moved p g m r.first t (at + f) mid (at + a) a b between (omega arith) (omega (arith, middle)) (omega arith) (omega (arith, r.first_long)) e3

  -- they get no longer in sum: what stands between them moves first
  pub closed : (a b : ℕ) (b1 b2 b3 : List ℕ) (len to : ℕ) → len ≡ length bytes → to ≡ mid - f + a → a + b ≤ f + s →
      b1 ≡ copy_within bytes (at + f) mid (at + a) → b2 ≡ copy_within b1 (mid + s) len (to + b) → b3 ≡ take (to + b + (len - (mid + s))) b2 →
      IsRegapped p a m b t b3
  closed a b b1 b2 b3 len to el et down e1 e2 e3 =
      then (moved p g m o t (at + f) mid (at + a) a (f + s - a) is (omega arith) (omega (arith, middle)) (omega arith) (omega arith) e1) where
        cut : (x y : List ℕ) → length x ≡ a → IsRegapped (p ++ (x ++ m)) b t (f + s - a - b) [] b2 → IsRegapped p a m b t b3
        cut x y lx r =
            let n : ℕ = to + b + (len - (mid + s)) in
            let kept = take_at ((p ++ (x ++ m)) ++ (r.first ++ t)) r.second n (omega (arith, long, middle, r.first_long, length-append {A = ℕ})) in
            let whole : b2 ≡ ((p ++ (x ++ m)) ++ (r.first ++ t)) ++ r.second = r.is ∙ simp (append_assoc, append-nil) in
            record {
              first = x;
              second = r.first;
              is = e3 ∙ (ap (take n) whole ∙ (kept ∙ simp append_assoc));
              first_long = lx;
              second_long = r.first_long;
            }

        then : IsRegapped p a m (f + s - a) t b1 → IsRegapped p a m b t b3
        then r =
            let lh : length (p ++ (r.first ++ m)) ≡ to = omega (arith, middle, r.first_long, length-append {A = ℕ}) in
            cut r.first r.second r.first_long (moved (p ++ (r.first ++ m)) r.second t [] [] (mid + s) len (to + b) b (f + s - a - b)
            (r.is ∙ regrouped p r.first m r.second t) (omega (arith, r.second_long, middle)) (omega (arith, long)) (omega arith)
            (omega (arith, r.second_long)) e2)
