-- The lists of a map pass the checks of a parse.
use Rattle.zv_map2d.proofs.Common.{◌≡◌, ℕ, ◌+◌, true, List, [], ◌∷◌, length, map, Some, None, refl, ap, arith, length-append, length-map, list_all}
use Rattle.zv_map2d.proofs.Common.{AllByRecursion, keys_of, values_of, last_ascending, Lists, lists_fault, Bytes, Order, ascends, Rows, IsRow, ends_from}
use Rattle.zv_map2d.proofs.Common.{firsts, seconds, size}
use Rattle.std.proofs.lemmas.Bool.Decides.{nat_tests}
use Rattle.std.specs.List.Sorted.{IsStrictlySortedBy}
use Rattle.zv_map2d.proofs.Flat.{pieces_at_ends}
use Rattle.zv_map2d.proofs.Parsed.{IsHeld}
use Rattle.zv_map2d.proofs.Seen.{ends_count, rows_count, pairs_count}

module _ (order : Order) where
  -- the ends of a map ascend up to the number of its pairs
  last_of_ends : (n : ℕ) (m : Rows) → AllByRecursion (IsRow order) m → last_ascending n (ends_from n m) ≡ Some (n + size m)
  last_of_ends n [] all = ap Some (omega arith)
  last_of_ends n (r ∷ m) all = grind (arith, nat_tests, length-append r.1, all.0.0, last_of_ends (n + length r.1) m all.1)

  -- keys in strict order pass the test of a parse
  ascends_from_sorted : (xs : List Bytes) → IsStrictlySortedBy order xs → ascends order xs ≡ true
  unfolding IsStrictlySortedBy
  ascends_from_sorted [] up = refl
  ascends_from_sorted (x ∷ []) up = refl
  ascends_from_sorted (x ∷ y ∷ ys) up = rw up.0.0 (ascends_from_sorted (y ∷ ys) up.1)

  -- and so do those of each row
  rows_ascend : (m : Rows) → AllByRecursion (IsRow order) m → list_all (ascends order) (map keys_of (values_of m)) ≡ true
  rows_ascend [] all = refl
  rows_ascend (r ∷ m) all = rw (ascends_from_sorted (keys_of r.1) all.0.1) (rows_ascend m all.1)

-- the lists of a map have no fault
pub held_fault : (o0 o1 : Order) (l : Lists) (m : Rows) → IsHeld o0 o1 l m → lists_fault o0 o1 l ≡ None
held_fault o0 o1 l m h =
    let f = h.0 in
    let rows = pieces_at_ends keys_of (λ r. length-map r (λ p. p.0)) 0 m (seconds m) refl in
    let up0 = ascends_from_sorted o0 (firsts m) h.1.0 in
    grind (arith, nat_tests, rows_count f, ends_count f, pairs_count f, last_of_ends o1 0 m h.1.1, up0, rows, rows_ascend o1 m h.1.1)
