-- Four lists that pass the checks of a parse are those of a map.
use Rattle.zv_map2d.proofs.Common.{◌≡◌, ℕ, ◌+◌, ◌-◌, ◌<◌, ◌≤◌, true, List, [], ◌∷◌, length, drop, Some, None, refl, sym, ◌∙◌, ap, arith}
use Rattle.zv_map2d.proofs.Common.{length-drop, drop-map, drop_all, length-map, take-map, same_Some, IsTotalOrder, list_all, AllByRecursion, flat_map}
use Rattle.zv_map2d.proofs.Common.{Ordering, keys_of, values_of, last_ascending, Lists, keys_ascend, lists_fault, pieces, Bytes, ascends}
use Rattle.zv_map2d.proofs.Common.{Rows, IsFlat, IsRow, IsWell, ends_from, firsts, rows_of, slice_range, length-take-le, zip}
use Rattle.std.proofs.lemmas.Bool.{and_parts}
use Rattle.std.proofs.lemmas.Bool.Decides.{nat_tests}
use Rattle.std.proofs.lemmas.List.Folds.{drop_split}
use Rattle.std.proofs.lemmas.Slice.Zip.{firsts-zip, seconds-zip}
use Rattle.zv_ule.proofs.Ascents.{sorted_from_ascends}
use Rattle.zv_map2d.proofs.Flat.{pick_is}

ascends_first : (n e top : ℕ) (es : List ℕ) → last_ascending n (e ∷ es) ≡ Some top → (n < e) × (last_ascending e es ≡ Some top)
ascends_first n e top es h = grind arith

last_above : (n top : ℕ) (es : List ℕ) → last_ascending n es ≡ Some top → n ≤ top
last_above n top [] h = omega (arith, same_Some n top h)
last_above n top (e ∷ es) h = let t = ascends_first n e top es h in omega (arith, t.0, last_above e top es t.1)

-- the next end of an ascending joiner
pub end_within : (n e top : ℕ) (rest es : List ℕ) → rest ≡ e ∷ es → last_ascending n rest ≡ Some top → e ≤ top
end_within n e top rest es next h = last_above e top es (ascends_first n e top es (ap (last_ascending n) (sym next) ∙ h)).1

module _ (order : Bytes → Bytes → Ordering) where
  -- from place n on, the first keys, the ends and the pairs are those of the rows
  record IsCut (n : ℕ) (ks : List Bytes) (es : List ℕ) (xs : List (Bytes × Bytes)) (m : Rows) : Type 0 where
    pub firsts_are : ks ≡ firsts m
    pub ends_are : es ≡ ends_from n m
    pub pairs_are : drop n xs ≡ flat_map (λ r. r.1) m
    pub rows : AllByRecursion (IsRow order) m

  module _ (total : IsTotalOrder order) (xs : List (Bytes × Bytes)) where
    cut : (n : ℕ) (ks : List Bytes) (es : List ℕ) → length ks ≡ length es → last_ascending n es ≡ Some (length xs) →
        list_all (ascends order) (pieces (keys_of xs) n es) ≡ true → IsCut n ks es xs (zip ks (pieces xs n es))
    cut n [] [] even last up = record { firsts_are = refl; ends_are = refl; pairs_are = drop_all n xs (omega (arith, same_Some n _ last)); rows = tt }
    cut n [] (e ∷ es) even last up = absurd (omega (arith, even))
    cut n (k ∷ ks) [] even last up = absurd (omega (arith, even))
    cut n (k ∷ ks) (e ∷ es) even last up =
        let a = ascends_first n e (length xs) es last in
        let b = and_parts (ascends order (slice_range (keys_of xs) n e)) (list_all (ascends order) (pieces (keys_of xs) e es)) up in
        let rest = cut e ks es (omega (arith, even)) a.1 b.1 in
        let row : List (Bytes × Bytes) = slice_range xs n e in
        let size : length row ≡ e - n = length-take-le (e - n) (drop n xs) (omega (arith, last_above e (length xs) es a.1, length-drop n xs)) in
        let here : n + length row ≡ e = omega (arith, size, a.0) in
        let keys : slice_range (keys_of xs) n e ≡ keys_of row = simp (drop-map, take-map) in
        record {
          firsts_are = rw (← rest.firsts_are) refl;
          ends_are = rw (here, ← rest.ends_are) refl;
          pairs_are = rw (← rest.pairs_are) (drop_split xs n e (omega (arith, a.0)));
          rows = ((omega (arith, size, a.0), rw (← keys) (sorted_from_ascends total _ b.0)), rest.rows);
        }

module _ (o0 o1 : Bytes → Bytes → Ordering) where
  -- four lists are those of the map, whose keys ascend
  abbrev pub IsHeld : Lists → Rows → Type 0
  IsHeld l m = IsFlat l.keys0 l.joiner l.keys1 l.values m × IsWell o0 o1 m

  -- lists without a fault are those of a map
  pub held_lists : IsTotalOrder o0 → IsTotalOrder o1 → (l : Lists) → lists_fault o0 o1 l ≡ None →
      IsHeld l (rows_of l.keys0 l.joiner l.keys1 l.values)
  held_lists t0 t1 l e =
      let even0 : length l.keys0 ≡ length l.joiner = grind (arith, nat_tests) in
      let even1 : length l.values ≡ length l.keys1 = grind (arith, nat_tests) in
      let last : last_ascending 0 l.joiner ≡ Some (length l.keys1) = grind (arith, nat_tests) in
      let ascend : keys_ascend o0 o1 l ≡ true = grind (arith, nat_tests) in
      let up = and_parts (ascends o0 l.keys0) (list_all (ascends o1) (pieces l.keys1 0 l.joiner)) ascend in
      let pairs : List (Bytes × Bytes) = zip l.keys1 l.values in
      let k1s : keys_of pairs ≡ l.keys1 = firsts-zip l.keys1 l.values even1 in
      let vs : values_of pairs ≡ l.values = seconds-zip l.keys1 l.values even1 in
      let long : length pairs ≡ length l.keys1 = rw (← length-map pairs (λ p. p.0), k1s) refl in
      let p = cut o1 t1 pairs 0 l.keys0 l.joiner even0 (rw long last) (rw k1s up.1) in (
        record {
          firsts_are = p.firsts_are;
          ends_are = p.ends_are;
          seconds_are = rw (pick_is (λ p. p.0), ← p.pairs_are) (sym k1s);
          values_are = rw (pick_is (λ p. p.1), ← p.pairs_are) (sym vs);
        },
        (rw (← p.firsts_are) (sorted_from_ascends t0 l.keys0 up.0), p.rows),
      )
