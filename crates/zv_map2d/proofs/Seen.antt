-- What the four lists of a map have.
use Rattle.zv_map2d.proofs.Common.{◌≡◌, ◌⊎◌, ℕ, suc, ◌+◌, ◌-◌, ◌<◌, ◌≤◌, Bool, List, [], length, get_or, slice_index, take, Result, sym, ◌∙◌, ap, arith}
use Rattle.zv_map2d.proofs.Common.{zero-add, length-append, length-drop, length-take, Some, length-map, take-take, take_all, slice_get-get_or, IsTotalOrder}
use Rattle.zv_map2d.proofs.Common.{AllByRecursion, insert, remove, slice_get, same_Some, compared_range, placed, IsAt, IsMap, keys_of, values_of, compared}
use Rattle.zv_map2d.proofs.Common.{Found, IsGap, last_key, Bytes, Order, nth, Rows, firsts, seconds, IsFlat, IsRow, IsWell, before, row_at, rows_of, AreColumns}
use Rattle.zv_map2d.proofs.Common.{size, Map2d, Row, Vector, row_seen, slice_range, zip}
use Rattle.std.specs.Result.{MatchResult}
use Rattle.zv_map2d.proofs.Flat.{before_suc, before_within, end_at, get_pair, length_ends, length_pick, nth_pair, row_range, row_well, zip_parts}
pub use Rattle.zv_map2d.proofs.Flat.{view_of}

-- lists that are the same as those of a map
pub same_lists : {k0s l0s : List Bytes} {es fs : List ℕ} {k1s l1s vs us : List Bytes} {m : Rows} → l0s ≡ k0s → fs ≡ es → l1s ≡ k1s → us ≡ vs →
    IsFlat k0s es k1s vs m → IsFlat l0s fs l1s us m
same_lists a b c d s = record { firsts_are = a ∙ s.firsts_are; ends_are = b ∙ s.ends_are; seconds_are = c ∙ s.seconds_are; values_are = d ∙ s.values_are }

-- the lists of the map that is seen, and that it is well formed
module _ {u0 u1 u2 : Bool} {o0 o1 : Order} {k0s : List Bytes} {es : List ℕ} {k1s vs : List Bytes} {a b c d : Vector} {m : Map2d}
    (same : record { rows = rows_of k0s es k1s vs; keys0 = a; joiner = b; keys1 = c; values = d } ≡ m) (h : AreColumns u0 u1 u2 o0 o1 k0s es k1s vs) where
  pub seen : IsFlat k0s es k1s vs m.rows
  seen = rw (← same) h.flat

  pub seen_well : IsWell o0 o1 m.rows
  seen_well = rw (← same) h.well

-- lists of a well formed map are columns where others were
pub columns : {u0 u1 u2 : Bool} {o0 o1 : Order} {k0s l0s : List Bytes} {es fs : List ℕ} {k1s l1s vs us : List Bytes} {m : Rows} →
    AreColumns u0 u1 u2 o0 o1 k0s es k1s vs → IsFlat l0s fs l1s us m → IsWell o0 o1 m → AreColumns u0 u1 u2 o0 o1 l0s fs l1s us
columns old flat well =
    record { keys0 = old.keys0; keys1 = old.keys1; values = old.values; flat = rw (view_of flat) flat; well = rw (view_of flat) well }

-- lists of a well formed map are those of the map that they stand for
pub views : (order0 order1 : Order) {k0s : List Bytes} {es : List ℕ} {k1s vs : List Bytes} {m : Rows} → IsFlat k0s es k1s vs m → IsWell order0 order1 m →
    IsFlat k0s es k1s vs (rows_of k0s es k1s vs) × IsWell order0 order1 (rows_of k0s es k1s vs)
views order0 order1 flat well = rw (view_of flat) (flat, well)

-- no lists are those of the map of no pairs
pub none : {k0s : List Bytes} {es : List ℕ} {k1s vs : List Bytes} → k0s ≡ [] → es ≡ [] → k1s ≡ [] → vs ≡ [] → IsFlat k0s es k1s vs []
none a b c d = record { firsts_are = a; ends_are = b; seconds_are = c; values_are = d }

-- later rows start no earlier
pub before_mono : (m : Rows) (i j : ℕ) → i ≤ j → before m i ≤ before m j
before_mono m i j h = rw (← take-take i j m h) (before_within (take j m) i)

-- an insertion makes a list one longer, and a removal none
pub one_more : (xs ys : List Bytes) (i : ℕ) (x : Bytes) → ys ≡ insert xs i x → length ys ≤ length xs + 1
one_more xs ys i x e = rw e (simp (length-append, length-take, length-drop) (omega arith))

pub no_more : (xs ys : List Bytes) (i : ℕ) → ys ≡ remove xs i → length ys ≤ length xs + 0
no_more xs ys i e = rw e (simp (length-append, length-take, length-drop) (omega arith))

-- as many second keys as the list has
pub few_more : {u0 u1 u2 : Bool} {o0 o1 : Order} {k0s l0s : List Bytes} {es fs : List ℕ} {k1s l1s vs us : List Bytes} (n : ℕ) →
    AreColumns u0 u1 u2 o0 o1 k0s es k1s vs → AreColumns u0 u1 u2 o0 o1 l0s fs l1s us → length l1s ≤ length k1s + n →
    length (seconds (rows_of l0s fs l1s us)) ≤ length (seconds (rows_of k0s es k1s vs)) + n
few_more n before after h = rw (← before.flat.seconds_are, ← after.flat.seconds_are) h

module _ {k0s : List Bytes} {es : List ℕ} {k1s vs : List Bytes} {m : Rows} (s : IsFlat k0s es k1s vs m) where
  pub rows_count : length k0s ≡ length m
  rows_count = ap length s.firsts_are ∙ length-map m (λ r. r.0)

  pub seconds_count : length k1s ≡ length (seconds m)
  seconds_count = ap length s.seconds_are

  pub ends_count : length es ≡ length m
  ends_count = ap length s.ends_are ∙ length_ends 0 m

  pub pairs_count : (length k1s ≡ size m) × (length vs ≡ size m)
  pairs_count = (ap length s.seconds_are ∙ length_pick (λ p. p.0) m, ap length s.values_are ∙ length_pick (λ p. p.1) m)

  -- where a row starts, or would
  pub row_goes : (i at : ℕ) → at ≡ before m i → (at ≤ length k1s) × (at ≤ length vs)
  row_goes i at e = let top = before_within m i in (omega (arith, pairs_count.0), omega (arith, pairs_count.1))

  -- what a search of the first keys found
  pub row_placed : {order : Order} → IsTotalOrder order → (key : Bytes) (r : Result ℕ ℕ) → IsMap order m → Found (compared order k0s key) r →
      MatchResult r (IsAt (compared order (firsts m) key)) (IsGap (compared order (firsts m) key))
  row_placed total key r up found = placed total key (firsts m) up r (rw (← s.firsts_are) found)

  -- which is a search of all first keys
  pub all_answers : (order : Order) (key : Bytes) (end : ℕ) → end ≡ length m → slice_range (compared order k0s key) 0 end ≡ compared order k0s key
  all_answers order key end h = take_all (end - 0) (compared order k0s key) (omega (arith, length-map k0s (λ x. order x key), rows_count))

  -- a row that is seen, as what its key has
  pub row_seen_is : (i : ℕ) (c : Row) → i < length k0s → c ≡ row_seen m i → slice_get (values_of m) i ≡ Some c.pairs
  row_seen_is i c h e = slice_get-get_or (values_of m) i [] (omega (arith, h, rows_count, length-map m (λ q. q.1))) ∙ ap (λ (r : Row). Some r.pairs) (sym e)

  module _ {i : ℕ} (h : i < length m) where
    -- where the pairs of a row end
    pub end_is : get_or es i 0 ≡ before m (suc i)
    end_is = rw s.ends_are (end_at 0 m i h ∙ zero-add (before m (suc i)))

    pub end_read : {n : ℕ} → slice_get es i ≡ Some n → n ≡ before m (suc i)
    end_read {n} e = same_Some n _ (sym e ∙ slice_get-get_or es i 0 (omega (arith, h, ends_count))) ∙ end_is

    pub row_within : (before m i ≤ before m (suc i)) × (before m (suc i) ≤ length k1s) × (before m (suc i) ≤ length vs)
    row_within = let top = before_within m (suc i) in (omega (arith, before_suc m i h), omega (arith, pairs_count.0), omega (arith, pairs_count.1))

    -- where pair j of row i stands, or would, in the second keys and in the values
    pub pair_goes : {j at : ℕ} → j ≤ length (row_at m i) → at ≡ before m i + j → (at ≤ length k1s) × (at ≤ length vs)
    pair_goes k e = (omega (arith, row_within.1, before_suc m i h), omega (arith, row_within.2, before_suc m i h))

    pub pair_stands : {j at : ℕ} → j < length (row_at m i) → at ≡ before m i + j → (at < length k1s) × (at < length vs)
    pair_stands {j} {at} k e = pair_goes {j = suc j} {at = suc at} k (omega arith)

    -- the value of a pair of a row
    pub value_is : {j at : ℕ} → j < length (row_at m i) → at ≡ before m i + j → slice_get vs at ≡ slice_get (values_of (row_at m i)) j
    value_is {j} k a = rw (a, s.values_are) (get_pair (λ p. p.1) m i h j k)

    -- the last second key of a row
    pub last_of_row : {end : ℕ} → 0 < length (row_at m i) → end ≡ before m (suc i) →
        (end - 1 < length k1s) × (nth k1s (end - 1) ≡ last_key (keys_of (row_at m i)))
    last_of_row {end} some e =
        let ks = keys_of (row_at m i) in
        let many = length-map (row_at m i) (λ p. p.0) in
        let at : end - 1 ≡ before m i + (length ks - 1) = omega (arith, before_suc m i h) in (
          omega (arith, row_within.1, before_suc m i h),
          rw (at, s.seconds_are) (nth_pair (λ p. p.0) m i h (length ks - 1) (omega arith)),
        )

    -- between its ends
    module _ {start end : ℕ} (a : start ≡ before m i) (b : end ≡ before m (suc i)) where
      -- stand the second keys of a row
      pub row_range_is : slice_range k1s start end ≡ keys_of (row_at m i)
      row_range_is = rw (a, b, s.seconds_are) (row_range (λ p. p.0) m i h)

      -- as many as the row has
      pub row_size : end - start ≡ length (row_at m i)
      row_size = omega (arith, before_suc m i h)

      -- within all of them
      pub in_range : (length k1s < end) ⊎ (end < start) → ⊥
      in_range outside = grind (arith, row_within)

      -- and with the values they are its pairs
      pub row_pairs : zip (slice_range k1s start end) (slice_range vs start end) ≡ row_at m i
      row_pairs = rw (a, b, s.seconds_are, s.values_are, row_range (λ p. p.0) m i h, row_range (λ p. p.1) m i h) (zip_parts (row_at m i))

      -- what a search there found
      pub pair_placed : {order : Order} → IsTotalOrder order → (key : Bytes) (r : Result ℕ ℕ) → AllByRecursion (IsRow order) m →
          Found (slice_range (compared order k1s key) start end) r →
          MatchResult r (IsAt (compared order (keys_of (row_at m i)) key)) (IsGap (compared order (keys_of (row_at m i)) key))
      pair_placed {order} total key r all found =
          placed total key (keys_of (row_at m i)) (row_well order m i all h).1 r (rw (← row_range_is, ← compared_range order key k1s start end) found)

  -- where pairs are still counted, each end can be one more
  pub ends_below : length (seconds m) < 4294967295 → (k : ℕ) → k < length es → slice_index es k < 4294967295
  ends_below few k h = omega (arith, end_is {i = k} (omega (arith, ends_count)), before_within m (suc k), length_pick (λ p. p.0) m)

  -- from a row with a pair on, each end can be one less
  pub ends_some : {i : ℕ} → i < length m → 0 < length (row_at m i) → (k : ℕ) → i ≤ k → k < length es → 0 < slice_index es k
  ends_some {i} h some k a l = omega (arith, end_is {i = k} (omega (arith, ends_count)), before_suc m i h, before_mono m (suc i) (suc k) (omega arith))
