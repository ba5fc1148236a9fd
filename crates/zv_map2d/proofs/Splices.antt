-- What a change of some rows, or of one row's pairs, does to the four lists of a map. Each change is a splice: none or one element stands in place
-- of none or one.
use Rattle.zv_map2d.proofs.Common.{length-take, length-drop, ◌≡◌, ℕ, zero, suc, ◌+◌, ◌-◌, ◌<◌, ◌≤◌, List, [], ◌∷◌, ◌++◌, length, get_or, set, take, drop, map}
use Rattle.zv_map2d.proofs.Common.{refl, sym, ◌∙◌, ap, arith, length-append, add-suc, map-append, map-id, take-map, drop-map, take-append-drop}
use Rattle.zv_map2d.proofs.Common.{take-append-le, drop-append-le, take_at, drop_at, length-set, set_split, length-map, insert, remove, splice, keys_of, values}
use Rattle.zv_map2d.proofs.Common.{values_of, set_value_at, Bytes, nth, Rows, ends_from, IsFlat, before, row_at, shift_from, append_assoc, seconds}
use Rattle.std.proofs.Math.Seq.{take-append-add, drop-append-add}
use Rattle.std.proofs.lemmas.List.{get_or-map, map-set, set-get_or, get_or-drop, places, ext_get_or}
use Rattle.std.proofs.lemmas.List.Concat.{flat_map-append}
use Rattle.std.proofs.lemmas.List.Edits.{length-insert, length-remove}
use Rattle.zv_map2d.proofs.Flat.{rows_cut, pick_split, nth_pair, pick, length_pick, before_next, before_suc, before_within, pair_within}

-- ---- splices

map-splice : {A B : Type 0} (f : A → B) (xs : List A) (i j : ℕ) (ys : List A) → map f (splice xs i j ys) ≡ splice (map f xs) i j (map f ys)
map-splice f xs i j ys = simp (map-append, take-map, drop-map)

-- of the first or of the second of two parts
splice-append_left : {A : Type 0} (xs ys zs : List A) (i j : ℕ) → i ≤ length xs → j ≤ length xs → splice (xs ++ ys) i j zs ≡ splice xs i j zs ++ ys
splice-append_left xs ys zs i j h k = rw (take-append-le i xs ys h, drop-append-le j xs ys k) (simp append_assoc)

splice-append_right : {A : Type 0} (xs ys zs : List A) (i j : ℕ) → splice (xs ++ ys) (length xs + i) (length xs + j) zs ≡ xs ++ splice ys i j zs
splice-append_right xs ys zs i j = rw (take-append-add xs ys i, drop-append-add xs ys j) (simp append_assoc)

keys-set_value_at : {X : Type 0} (m : List (Bytes × X)) (i : ℕ) (x : X) → keys_of (set_value_at m i x) ≡ keys_of m
keys-set_value_at m i x = map-set (λ e. e.0) m i (nth (keys_of m) i, x) ∙ set-get_or (keys_of m) i []

-- ---- the pairs

-- a row starts within all pairs, or after them
pub start_within : (g : Bytes × Bytes → Bytes) (m : Rows) (i : ℕ) → before m i ≤ length (pick g m)
start_within g m i = omega (arith, before_within m i, length_pick g m)

pub row_starts : (m : Rows) (i : ℕ) → before m i ≤ length (seconds m)
row_starts m i = start_within (λ q. q.0) m i

-- other rows
pick_rows : (g : Bytes × Bytes → Bytes) (m : Rows) (i j : ℕ) (new : Rows) → pick g (splice m i j new) ≡ splice (pick g m) (before m i) (before m j) (pick g new)
pick_rows g m i j new =
    let front : take (before m i) (pick g m) ≡ pick g (take i m) = rw (rows_cut (λ r. map g r.1) m i) (take_at _ _ _ (length_pick g (take i m))) in
    let back : drop (before m j) (pick g m) ≡ pick g (drop j m) = rw (rows_cut (λ r. map g r.1) m j) (drop_at _ _ _ (length_pick g (take j m))) in
    rw (front, back) (simp flat_map-append)

-- other pairs in row i
pick_splice : (g : Bytes × Bytes → Bytes) (m : Rows) (i j l : ℕ) (ps : List (Bytes × Bytes)) → i < length m → j ≤ length (row_at m i) →
    l ≤ length (row_at m i) → pick g (set_value_at m i (splice (row_at m i) j l ps)) ≡ splice (pick g m) (before m i + j) (before m i + l) (map g ps)
pick_splice g m i j l ps h a b =
    let within : (k : ℕ) → k ≤ length (row_at m i) → k ≤ length (map g (row_at m i)) = λ k c. omega (arith, length-map (row_at m i) g) in
    rw (
      set_split m i _ h,
      flat_map-append,
      pick_split g m i h,
      ← length_pick g (take i m),
      splice-append_right,
      splice-append_left _ _ _ j l (within j a) (within l b),
      map-splice,
    ) refl

-- another pair in place of one
pick_set : (g : Bytes × Bytes → Bytes) (m : Rows) (i j : ℕ) (p : Bytes × Bytes) → i < length m → j < length (row_at m i) →
    pick g (set_value_at m i (set (row_at m i) j p)) ≡ set (pick g m) (before m i + j) (g p)
pick_set g m i j p h k =
    rw (set_split (row_at m i) j p k, set_split (pick g m) (before m i + j) (g p) (pair_within g m i h j k))
    (pick_splice g m i j (suc j) (p ∷ []) h (omega arith) k ∙ rw add-suc refl)

-- ---- the ends

-- a more and b less takes those that are counted from c to those from d
ends_moved : (a b c d : ℕ) → c + a ≡ d + b → (m : Rows) → ends_from d m ≡ map (λ e. e + a - b) (ends_from c m)
ends_moved a b c d e [] = refl
ends_moved a b c d e (r ∷ m) = grind (arith, ends_moved a b (c + length r.1) (d + length r.1) (omega (arith, e)) m)

-- another row in place of row i
ends_row : (a b n : ℕ) (m : Rows) (i : ℕ) (r : List (Bytes × Bytes)) → i < length m → length (row_at m i) + a ≡ length r + b →
    ends_from n (set_value_at m i r) ≡ shift_from a b i (ends_from n m)
ends_row a b n [] i r h e = absurd (omega arith)
ends_row a b n (q ∷ m) zero r h e = grind (arith, ends_moved a b (n + length q.1) (n + length r) (omega (arith, e)) m)
ends_row a b n (q ∷ m) (suc i) r h e = ap (λ z. (n + length q.1) ∷ z) (ends_row a b (n + length q.1) m i r (omega arith) e)

-- a new row of one pair
ends_new : (n : ℕ) (m : Rows) (i : ℕ) (k : Bytes) (p : Bytes × Bytes) → i ≤ length m →
    ends_from n (insert m i (k, p ∷ [])) ≡ insert (shift_from 1 0 i (ends_from n m)) i (n + before m i + 1)
ends_new n m zero k p h = grind (arith, ends_moved 1 0 n (n + length (p ∷ [])) (omega arith) m)
ends_new n [] (suc i) k p h = absurd (omega arith)
ends_new n (q ∷ m) (suc i) k p h = grind (arith, before_next q m i, ends_new (n + length q.1) m i k p (omega arith))

-- without a row of one pair
ends_old : (n : ℕ) (m : Rows) (i : ℕ) → i < length m → length (row_at m i) ≡ 1 → ends_from n (remove m i) ≡ remove (shift_from 0 1 i (ends_from n m)) i
ends_old n [] i h one = absurd (omega arith)
ends_old n (q ∷ m) zero h one = ends_moved 0 1 (n + length q.1) n (omega (arith, one)) m
ends_old n (q ∷ m) (suc i) h one = ap (λ z. (n + length q.1) ∷ z) (ends_old (n + length q.1) m i (omega arith) one)

-- as many as before
pub shift_count : (a b i : ℕ) (xs : List ℕ) → length (shift_from a b i xs) ≡ length xs
shift_count a b i xs = simp (length-append, length-map, length-take, length-drop) (omega arith)

-- ---- the four lists

module _ {k0s : List Bytes} {es : List ℕ} {k1s vs : List Bytes} {m : Rows} (flat : IsFlat k0s es k1s vs m) (i : ℕ) where
  -- other rows, whose ends are known
  rows_spliced : (j : ℕ) (new : Rows) {fs : List ℕ} → fs ≡ ends_from 0 (splice m i j new) →
      IsFlat (splice k0s i j (keys_of new)) fs (splice k1s (before m i) (before m j) (seconds new)) (splice vs (before m i) (before m j) (values new))
      (splice m i j new)
  rows_spliced j new e = record {
    firsts_are = rw flat.firsts_are (sym (map-splice (λ q. q.0) m i j new));
    ends_are = e;
    seconds_are = rw flat.seconds_are (sym (pick_rows (λ q. q.0) m i j new));
    values_are = rw flat.values_are (sym (pick_rows (λ q. q.1) m i j new));
  }

  -- a new row of one pair
  pub row_added : (p : ℕ) (k0 k1 v : Bytes) → i ≤ length m → p ≡ before m i →
      IsFlat (insert k0s i k0) (insert (shift_from 1 0 i es) i (p + 1)) (insert k1s p k1) (insert vs p v) (insert m i (k0, (k1, v) ∷ []))
  row_added p k0 k1 v h e =
      let at : p + 1 ≡ 0 + before m i + 1 = omega arith in
      rw (at, e) (rows_spliced i ((k0, (k1, v) ∷ []) ∷ []) (rw flat.ends_are (sym (ends_new 0 m i k0 (k1, v) h))))

  -- without a row of one pair
  pub row_removed : (p : ℕ) → i < length m → length (row_at m i) ≡ 1 → p ≡ before m i →
      IsFlat (remove k0s i) (remove (shift_from 0 1 i es) i) (remove k1s p) (remove vs p) (remove m i)
  row_removed p h one e =
      let next : suc p ≡ before m (suc i) = omega (arith, before_suc m i h) in
      rw (next, e) (rows_spliced (suc i) [] (rw flat.ends_are (sym (ends_old 0 m i h one))))

  -- in row i
  module _ (j p : ℕ) (h : i < length m) (e : p ≡ before m i + j) where
    -- some pairs in place of others
    row_spliced : (a b l q : ℕ) (ps : List (Bytes × Bytes)) → j ≤ length (row_at m i) → l ≤ length (row_at m i) → q ≡ before m i + l →
        length (row_at m i) + a ≡ length (splice (row_at m i) j l ps) + b →
        IsFlat k0s (shift_from a b i es) (splice k1s p q (keys_of ps)) (splice vs p q (values_of ps)) (set_value_at m i (splice (row_at m i) j l ps))
    row_spliced a b l q ps k c d n =
        let r : List (Bytes × Bytes) = splice (row_at m i) j l ps in
        record {
          firsts_are = flat.firsts_are ∙ sym (keys-set_value_at m i r);
          ends_are = ap (shift_from a b i) flat.ends_are ∙ sym (ends_row a b 0 m i r h n);
          seconds_are = rw (e, d, flat.seconds_are) (sym (pick_splice (λ q. q.0) m i j l ps h k c));
          values_are = rw (e, d, flat.values_are) (sym (pick_splice (λ q. q.1) m i j l ps h k c));
        }

    -- a new pair
    pub pair_added : (k1 v : Bytes) → j ≤ length (row_at m i) →
        IsFlat k0s (shift_from 1 0 i es) (insert k1s p k1) (insert vs p v) (set_value_at m i (insert (row_at m i) j (k1, v)))
    pair_added k1 v k = row_spliced 1 0 j p ((k1, v) ∷ []) k k e (omega (arith, length-insert (row_at m i) j (k1, v) k))

    -- without a pair
    pub pair_removed : j < length (row_at m i) →
        IsFlat k0s (shift_from 0 1 i es) (remove k1s p) (remove vs p) (set_value_at m i (remove (row_at m i) j))
    pair_removed k = row_spliced 0 1 (suc j) (suc p) [] (omega arith) k (omega (arith, e)) (omega (arith, length-remove (row_at m i) j k))

    -- another value for a pair
    pub value_set : (v : Bytes) → j < length (row_at m i) → IsFlat k0s es k1s (set vs p v) (set_value_at m i (set_value_at (row_at m i) j v))
    value_set v k =
        let key = nth (keys_of (row_at m i)) j in
        let r = set_value_at (row_at m i) j v in
        let many : length (row_at m i) + 0 ≡ length r + 0 = omega (arith, length-set (row_at m i) j (key, v)) in
        let none : (e : ℕ) → e + 0 - 0 ≡ e = λ e. omega arith in
        record {
          firsts_are = flat.firsts_are ∙ sym (keys-set_value_at m i r);
          ends_are = flat.ends_are ∙ sym (ends_row 0 0 0 m i r h many ∙ simp (none, map-id, take-append-drop));
          seconds_are = flat.seconds_are ∙ sym (rw (pick_set (λ q. q.0) m i j (key, v) h k, ← nth_pair (λ q. q.0) m i h j k) (set-get_or _ _ []));
          values_are = rw (e, flat.values_are) (sym (pick_set (λ q. q.1) m i j (key, v) h k));
        }

-- ---- the numbers of a changed joiner

-- ys has the numbers of xs, each from place i on a more and b less
pub shifted : (a b : ℕ) (xs ys : List ℕ) (i : ℕ) → length ys ≡ length xs → ((k : ℕ) → k < i → get_or ys k 0 ≡ get_or xs k 0) →
    ((k : ℕ) → i ≤ k → k < length xs → get_or ys k 0 ≡ get_or xs k 0 + a - b) → ys ≡ shift_from a b i xs
shifted a b xs ys i e low high =
    ext_get_or 0 ys (shift_from a b i xs) (omega (arith, e, shift_count a b i xs)) (λ k h.
    grind (arith, places, low k, high k, get_or-map (λ e. e + a - b) (drop i xs) (k - length (take i xs)) 0 0, get_or-drop i xs (k - length (take i xs)) 0))
