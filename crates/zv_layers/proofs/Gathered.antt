-- The lists of a map, as its rows come to their ends.
use Rattle.zv_layers.proofs.Common.{◌++◌, ◌+◌, ◌<◌, ◌∷◌, ◌≡◌, ◌≤◌, All, AreInOrder, Bytes, IsRow, IsWell, List, Lists, Next, None, Rows, Some, [], ap}
use Rattle.zv_layers.proofs.Common.{append-nil, append_assoc, arith, by_bytes, columns_of, ends, ends_from, entry_of, keys_of, laid_pairs, laid_rows, later}
use Rattle.zv_layers.proofs.Common.{length, length-append, length-map, lengths, map-append, next_of, overlay, own, pair_count, refl, rows_in, seconds, suc}
use Rattle.zv_layers.proofs.Common.{sum_by, sym, triples, values_of, weight_of, with_pairs, with_row, ℕ, ⊤}
use Rattle.std.proofs.lemmas.List.Concat.{flat_map-append, length-flat_map}
use Rattle.std.proofs.lemmas.List.Elements.{All-from_get_or}
use Rattle.zv_map2d.proofs.Flat.{before_within, end_at, length_ends, length_pick, view_of}
use Rattle.zv_map2d_laws.proofs.Laid.{overlay_laid, puts_in_order}
use Rattle.zv_layers.proofs.Laid.{Comes, none_left, took}

-- ---- a row at the end

ends_after : (n : ℕ) (m : Rows) (r : Bytes × List (Bytes × Bytes)) →
    ends_from n (m ++ r ∷ []) ≡ ends_from n m ++ (n + length (seconds m ++ keys_of r.1)) ∷ []
ends_after n [] r = ap (λ l. (n + l) ∷ []) (sym (length-map r.1 (λ p. p.0)))
ends_after n (q ∷ m) r = grind (arith, length-append, length-map, ends_after (n + length q.1) m r)

-- the lists of a map with a row more
row_added : (m : Rows) (r : Bytes × List (Bytes × Bytes)) → with_row (columns_of m) r ≡ columns_of (m ++ r ∷ [])
row_added m r = sym (rw (ends_after 0 m r) (simp (map-append, flat_map-append, append-nil)
    (ap (λ n. record (with_row (columns_of m) r) { joiner = ends m ++ n ∷ [] }) (omega arith))))

-- ---- pairs at the end

pub no_pairs : (c : Lists) → with_pairs c [] ≡ c
no_pairs c = rw (append-nil c.keys1, append-nil c.values) refl

pub more_pairs : (c : Lists) (p : Bytes × Bytes) (ps : List (Bytes × Bytes)) → with_pairs c (p ∷ ps) ≡ with_pairs (with_pairs c (p ∷ [])) ps
more_pairs c p ps = rw (append_assoc c.keys1 (p.0 ∷ []) (keys_of ps), append_assoc c.values (p.1 ∷ []) (values_of ps)) refl

-- the pair that comes next is added
pub pair_added : (c : Lists) {d : Lists} {lists left : List (Bytes × Bytes) × List (Bytes × Bytes)} {next : Next (Bytes × Bytes)} →
    d ≡ with_pairs c (entry_of later next ∷ []) → Comes later (λ p. ⊤) lists next left →
    with_pairs d (laid_pairs left.0 left.1) ≡ with_pairs c (laid_pairs lists.0 lists.1)
pair_added c {left = left} {next} added comes =
    rw (added, comes.is) (sym (more_pairs c (entry_of later next) (laid_pairs left.0 left.1)))

-- ---- the rows of two maps that are laid over one another

-- some rows are there, and the others come of what is left of both maps; the steps are paid for
pub record Loop (c : Lists) (left : Rows × Rows) (m n : Rows) (steps first : ℕ) : Type 0 where
  pub done : Rows
  pub columns : c ≡ columns_of done
  pub all : done ++ laid_rows left.0 left.1 ≡ overlay m n
  pub base : IsWell by_bytes by_bytes left.0
  pub over : IsWell by_bytes by_bytes left.1
  pub whole : IsWell by_bytes by_bytes (overlay m n)
  pub counted : first ≤ steps
  pub paid : steps + lengths left + (sum_by pair_count left.0 + sum_by pair_count left.1)
      ≤ first + (length m + length (seconds m)) + (length n + length (seconds n))

pub starts : (m n : Rows) (steps : ℕ) {c : Lists} {lists : Rows × Rows} → lists ≡ (m, n) → c ≡ columns_of [] → IsWell by_bytes by_bytes m →
    IsWell by_bytes by_bytes n → Loop c lists m n steps steps
starts m n steps same none wm wn = rw same (record {
  done = [];
  columns = none;
  all = sym (overlay_laid n m wn.1);
  base = wm;
  over = wn;
  whole = puts_in_order m (triples n) wm;
  counted = omega arith;
  paid = let count = λ (z : Rows). length_pick (λ p. p.0) z in omega (arith, count m, count n, length-flat_map (λ r. r.1) m, length-flat_map (λ r. r.1) n);
})

module _ {c : Lists} {lists left : Rows × Rows} {m n : Rows} {steps first : ℕ} (loop : Loop c lists m n steps first) where
  -- a row comes next
  pub comes : {next : Next (Bytes × List (Bytes × Bytes))} → (Some next, left) ≡ next_of lists → Comes laid_pairs (IsRow by_bytes) lists next left
  comes same = took laid_pairs (IsRow by_bytes) same loop.base loop.over

  pub goes_on : {next : Next (Bytes × List (Bytes × Bytes))} {d : Lists} {after : ℕ} → (Some next, left) ≡ next_of lists →
      d ≡ with_row c (entry_of laid_pairs next) → steps ≤ after → after + lengths left ≤ steps + lengths lists + weight_of pair_count next →
      Loop d left m n after first
  goes_on {next} same added counted paid =
      let t = comes same in
      let new = entry_of laid_pairs next in record {
        done = loop.done ++ new ∷ [];
        columns = rw (added, loop.columns) (row_added loop.done new);
        all = rw (append_assoc loop.done (new ∷ []) (laid_rows left.0 left.1), ← t.is) loop.all;
        base = t.base;
        over = t.over;
        whole = loop.whole;
        counted = omega (arith, loop.counted);
        paid = omega (arith, loop.paid, t.spent pair_count);
      }

  -- none is left, and the rows are all of them
  pub ends_whole : (None, left) ≡ next_of lists → (rows_in c ≡ overlay m n) × AreInOrder c
  ends_whole same =
      let none = none_left laid_pairs (IsRow by_bytes) lists same loop.base loop.over in
      let done : loop.done ≡ overlay m n = rw (none, append-nil) at loop.all in
      let rows : rows_in (columns_of (overlay m n)) ≡ overlay m n = view_of (own (overlay m n)) in
      rw (loop.columns, done) (rows, record { flat = rw rows (own (overlay m n)); well = rw rows loop.whole })

-- ---- lists in order

pub ends_below : (m : Rows) → length (seconds m) < 4294967296 → All (λ end. end < 4294967296) (ends m)
ends_below m few = All-from_get_or (λ end. end < 4294967296) (ends m) 0 (λ i within.
    let h : i < length m = omega (arith, length_ends 0 m) in omega (arith, end_at 0 m i h, before_within m (suc i), length_pick (λ p. p.0) m))
