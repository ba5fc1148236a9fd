-- A map in two levels as four lists: which map they stand for, and where a row stands in them.
use Rattle.zv_map2d.proofs.Common.{subst, ◌≡◌, ℕ, zero, suc, ◌+◌, ◌-◌, ◌<◌, ◌≤◌, List, [], ◌∷◌, ◌++◌, length, get_or, take, drop, map, Some, refl, sym, ◌∙◌, ap}
use Rattle.zv_map2d.proofs.Common.{length-append, drop-drop, drop_at, length-map, map-append, map-id, take-append-drop, take_at, slice_get-get_or, flat_map}
use Rattle.zv_map2d.proofs.Common.{slice_get, AllByRecursion, Ordering, values_of, pieces, Bytes, nth, Rows, firsts, seconds, values, ends_from, ends, rows_of}
use Rattle.zv_map2d.proofs.Common.{IsFlat, IsRow, before, row_at, size, get_or-map, zip, slice_range, arith}
use Rattle.std.proofs.Math.Seq.{split_at}
use Rattle.std.proofs.lemmas.List.{get_or-append-add, get_or_append_left}
use Rattle.std.proofs.lemmas.List.Elements.{All-get_or, All-from_recursion}
use Rattle.std.proofs.lemmas.List.Concat.{flat_map-append}

pub zip_parts : {K X : Type 0} (r : List (K × X)) → zip (map (λ p. p.0) r) (map (λ p. p.1) r) ≡ r
zip_parts [] = refl
zip_parts (p ∷ r) = ap (λ z. p ∷ z) (zip_parts r)

-- ---- what a function of the pairs picks, row after row

-- as seconds and values are
abbrev pub pick : (Bytes × Bytes → Bytes) → Rows → List Bytes
pick g m = flat_map (λ r. map g r.1) m

pub pick_is : (g : Bytes × Bytes → Bytes) (m : Rows) → pick g m ≡ map g (flat_map (λ r. r.1) m)
pick_is g [] = refl
pick_is g (r ∷ m) = ap (λ z. map g r.1 ++ z) (pick_is g m) ∙ sym (map-append g r.1 (flat_map (λ q. q.1) m))

pub length_pick : (g : Bytes × Bytes → Bytes) (m : Rows) → length (pick g m) ≡ size m
length_pick g m = ap length (pick_is g m) ∙ length-map (flat_map (λ r. r.1) m) g

-- ---- row i

-- the rows before row i and the others
pub rows_cut : {A : Type 0} (f : Bytes × List (Bytes × Bytes) → List A) (m : Rows) (i : ℕ) →
    flat_map f m ≡ flat_map f (take i m) ++ flat_map f (drop i m)
rows_cut f m i = rw (← flat_map-append f (take i m) (drop i m), take-append-drop i m) refl

-- as many pairs as stand before a row
pub before_within : (m : Rows) (i : ℕ) → before m i ≤ size m
before_within m i = omega (arith, ap length (rows_cut (λ r. r.1) m i), length-append {A = Bytes × Bytes})

-- row i with its key
pub row_is : (m : Rows) (i : ℕ) → i < length m → get_or m i ([], []) ≡ (nth (firsts m) i, row_at m i)
row_is m i h k = (sym (get_or-map (λ r. r.0) m i ([], []) [] h) k, sym (get_or-map (λ r. r.1) m i ([], []) [] h) k)

pub row_split : (m : Rows) (i : ℕ) → i < length m → m ≡ take i m ++ (nth (firsts m) i, row_at m i) ∷ drop (suc i) m
row_split m i h = split_at m i ([], []) h ∙ ap (λ r. take i m ++ r ∷ drop (suc i) m) (row_is m i h)

pub row_pair : (m : Rows) (i : ℕ) → i < length m → slice_get m i ≡ Some (nth (firsts m) i, row_at m i)
row_pair m i h = slice_get-get_or m i ([], []) h ∙ ap Some (row_is m i h)

pub before_next : (q : Bytes × List (Bytes × Bytes)) (m : Rows) (i : ℕ) → before (q ∷ m) (suc i) ≡ length q.1 + before m i
before_next q m i = length-append q.1 (flat_map (λ r. r.1) (take i m))

pub before_suc : (m : Rows) (i : ℕ) → i < length m → before m (suc i) ≡ before m i + length (row_at m i)
before_suc [] i h = absurd (omega arith)
before_suc (q ∷ m) zero h = omega (arith, before_next q m 0)
before_suc (q ∷ m) (suc i) h = omega (arith, before_suc m i, before_next q m i, before_next q m (suc i))

-- a row of a well formed map
pub row_well : (order : Bytes → Bytes → Ordering) (m : Rows) (i : ℕ) → AllByRecursion (IsRow order) m → i < length m →
    IsRow order (nth (firsts m) i, row_at m i)
row_well order m i all h = subst (IsRow order) (row_is m i h) (All-get_or (IsRow order) m i ([], []) h (All-from_recursion (IsRow order) m all))

module _ (g : Bytes × Bytes → Bytes) (m : Rows) (i : ℕ) (h : i < length m) where
  pub pick_split : pick g m ≡ pick g (take i m) ++ (map g (row_at m i) ++ pick g (drop (suc i) m))
  pick_split = ap (pick g) (row_split m i h) ∙ flat_map-append (λ r. map g r.1) (take i m) _

  pub row_range : slice_range (pick g m) (before m i) (before m (suc i)) ≡ map g (row_at m i)
  row_range =
      rw (pick_split, drop_at (pick g (take i m)) _ _ (length_pick g (take i m)))
      (take_at _ _ _ (omega (arith, length-map (row_at m i) g, before_suc m i h)))

  -- pair j of row i, and the place after the last
  module _ (j : ℕ) where
    pub place_within : j ≤ length (row_at m i) → before m i + j ≤ length (pick g m)
    place_within k = omega (arith, length_pick g m, before_within m (suc i), before_suc m i h)

    pub pair_within : j < length (row_at m i) → before m i + j < length (pick g m)
    pair_within k = omega (arith, length_pick g m, before_within m (suc i), before_suc m i h)

    pub nth_pair : j < length (row_at m i) → nth (pick g m) (before m i + j) ≡ nth (map g (row_at m i)) j
    nth_pair k =
        rw (pick_split, ← length_pick g (take i m), get_or-append-add) (get_or_append_left _ _ [] j (omega (arith, length-map (row_at m i) g)))

    pub get_pair : j < length (row_at m i) → slice_get (pick g m) (before m i + j) ≡ slice_get (map g (row_at m i)) j
    get_pair k =
        rw (slice_get-get_or _ _ [] (pair_within k), slice_get-get_or (map g (row_at m i)) j [] (omega (arith, length-map (row_at m i) g)), nth_pair k) refl

-- the pairs of a row end within the second keys
pub row_ends : (m : Rows) (i : ℕ) → i < length m → before m i + length (row_at m i) ≤ length (seconds m)
row_ends m i h = place_within (λ q. q.0) m i h (length (row_at m i)) (omega arith)

-- ---- ends

pub length_ends : (n : ℕ) (m : Rows) → length (ends_from n m) ≡ length m
length_ends n [] = refl
length_ends n (q ∷ m) = ap suc (length_ends (n + length q.1) m)

pub end_at : (n : ℕ) (m : Rows) (i : ℕ) → i < length m → get_or (ends_from n m) i 0 ≡ n + before m (suc i)
end_at n [] i h = absurd (omega arith)
end_at n (q ∷ m) zero h = omega (arith, before_next q m 0)
end_at n (q ∷ m) (suc i) h = omega (arith, end_at (n + length q.1) m i (omega arith), before_next q m (suc i))

-- cut at the ends of the rows, what f gives row after row is what it gives each row
pub pieces_at_ends : {A : Type 0} (f : List (Bytes × Bytes) → List A) → ((r : List (Bytes × Bytes)) → length (f r) ≡ length r) → (n : ℕ) (m : Rows)
    (xs : List A) → drop n xs ≡ flat_map (λ r. f r.1) m → pieces xs n (ends_from n m) ≡ map f (values_of m)
pieces_at_ends f long n [] xs e = refl
pieces_at_ends f long n (r ∷ m) xs e =
    let w : n + length r.1 - n ≡ length r.1 = omega arith in
    let rest : drop (n + length r.1) xs ≡ flat_map (λ q. f q.1) m = rw (← drop-drop (length r.1) n xs, e) (drop_at (f r.1) _ _ (long r.1)) in
    rw (w, e, take_at (f r.1) _ _ (long r.1), pieces_at_ends f long (n + length r.1) m xs rest) refl

-- ---- the map that lists stand for

-- the lists of a map stand for that map, and for no other
rows_of_own : (m : Rows) → rows_of (firsts m) (ends m) (seconds m) (values m) ≡ m
rows_of_own m =
    rw (pick_is (λ p. p.0) m, pick_is (λ p. p.1) m, zip_parts (flat_map (λ r. r.1) m), pieces_at_ends (λ r. r) (λ r. refl) 0 m _ refl, map-id) (zip_parts m)

-- four lists that are a map's stand for it
pub view_of : {k0s : List Bytes} {es : List ℕ} {k1s vs : List Bytes} {m : Rows} → IsFlat k0s es k1s vs m → rows_of k0s es k1s vs ≡ m
view_of h = rw (h.firsts_are, h.ends_are, h.seconds_are, h.values_are) (rows_of_own _)
