-- Lists that ascend: how their elements compare with one another, and how a key that is sought compares with them.
use Rattle.zv_ule.proofs.Common.{◌≡◌, ℕ, zero, suc, ◌+◌, ◌<◌, ◌≤◌, true, List, [], ◌∷◌, length, ◌∙◌, ap, refl, add-one, arith, is_lt}
use Rattle.zv_ule.proofs.Common.{Ordering, Less, Equal, Bytes, nth, ascends, answer_at, Rises}
use Rattle.std.proofs.lemmas.Bool.{and_parts}
use Rattle.std.proofs.lemmas.List.{get_or-map, length-map}
use Rattle.std.proofs.lemmas.List.Sorted.{searchable_from_sorted}
use Rattle.std.proofs.lemmas.Map.Keys.{sorted_from_all_adjacent, Less-from_sorted}
use Rattle.std.specs.Cmp.{IsTotalOrder}
use Rattle.std.specs.List.Sorted.{IsStrictlySortedBy}
use Rattle.std.specs.Ordering.{ordering_reverse}
use Rattle.zv_ule.specs.Search.{below_next, compared, RisesByPlace}

less_of : (o : Ordering) → is_lt o ≡ true → o ≡ Less
less_of = elim [ Less ↦ λ e. refl | _ ↦ λ e. cc ]

neighbours : (order : Bytes → Bytes → Ordering) (x : Bytes) (xs : List Bytes) → below_next order x xs ≡ true →
    (k : ℕ) → k + 1 < length (x ∷ xs) → order (nth (x ∷ xs) k) (nth (x ∷ xs) (suc k)) ≡ Less
neighbours order x [] e k h = absurd (omega arith)
neighbours order x (y ∷ ys) e zero h = less_of _ (and_parts _ _ e).0
neighbours order x (y ∷ ys) e (suc k) h = neighbours order y ys (and_parts _ _ e).1 k (omega arith)

-- how the element at a place compares
pub compared_at : (order : Bytes → Bytes → Ordering) (key : Bytes) (xs : List Bytes) (i : ℕ) → i < length xs →
    answer_at (compared order xs key) i ≡ order (nth xs i) key
compared_at order key xs i h = get_or-map (λ x. order x key) xs i [] Equal h

module _ {order : Bytes → Bytes → Ordering} (total : IsTotalOrder order) where
  pub sorted_from_ascends : (xs : List Bytes) → ascends order xs ≡ true → IsStrictlySortedBy order xs
  sorted_from_ascends [] e = sorted_from_all_adjacent total [] [] (grind arith)
  sorted_from_ascends (x ∷ xs) e = sorted_from_all_adjacent total (x ∷ xs) [] (λ k h. rw add-one (neighbours order x xs e k h))

  pub rises_by_place : (xs : List Bytes) → ascends order xs ≡ true → RisesByPlace order xs
  rises_by_place xs e i j h k = Less-from_sorted order xs i j [] (sorted_from_ascends xs e) h k

  -- in a list that ascends, what a key compares with rises
  pub sorted_rises : (key : Bytes) (xs : List Bytes) → IsStrictlySortedBy order xs → Rises (compared order xs key)
  sorted_rises key xs up i j a b =
      let inside : j < length xs = simp length-map at b in
      let next = λ (k : ℕ) (d : Bytes) (_ : 0 ≤ k) (s : k + 1 < length xs).
      ap is_lt (total.antisymm _ _ ∙ ap ordering_reverse (Less-from_sorted order xs k (k + 1) d up (omega arith) s)) in
      rw (compared_at order key xs i (omega arith), compared_at order key xs j inside) (searchable_from_sorted total (λ x. x) xs key next i j [] a inside)

  pub rises : (xs : List Bytes) (key : Bytes) → ascends order xs ≡ true → Rises (compared order xs key)
  rises xs key up = sorted_rises key xs (sorted_from_ascends xs up)
