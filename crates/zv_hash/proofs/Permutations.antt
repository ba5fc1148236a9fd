-- Different numbers below their count are the numbers from 0 on, in another order.
use Rattle.zv_hash.proofs.Common.{◌≡◌, ℕ, zero, suc, ◌<◌, inl, inr, List, [], ◌∷◌, ◌++◌, length, get_or, arith, sym, nat_eq, length-append, add-one, append-nil}
use Rattle.zv_hash.proofs.Common.{subst, get_or_default, cases_Bool, eqb-true, ne_eqb, nil_from_length, map-id}
use Rattle.std.specs.List.{Contains, list_any, range_with_len, remove}
use Rattle.std.specs.Prelude.{IsPermutation}
use Rattle.std.proofs.lemmas.Cmp.{nat_eq_equiv}
use Rattle.std.proofs.lemmas.List.Elements.{All-contains, All-from_get_or, All-push, Contains-append_cases, Contains-get_or}
use Rattle.std.proofs.lemmas.List.FromFn.{length-range_with_len, get_or-range_with_len, map-range_with_len_more}
use Rattle.std.proofs.lemmas.List.Sorted.{Contains-permutation, IsPermutation-more, IsPermutation-refl, IsPermutation-sym, length_permutation}
use Rattle.std.proofs.lemmas.Map.Keys.{IsDistinct-from_apart, IsDistinct-push}
use Rattle.std.proofs.lemmas.Map.Steps.{length-le_from_distinct_below}
use Rattle.std.proofs.lemmas.Map.Views.{Contains-from_any}

-- a list that has each number below k has them from the front on in another order
gathered : (xs : List ℕ) (k : ℕ) → ((q : ℕ) → q < k → Contains xs q) → (left : List ℕ) × IsPermutation xs (range_with_len 0 k ++ left)
gathered xs zero all = (xs, IsPermutation-refl xs)
gathered xs (suc k) all =
    let before = gathered xs k (λ q h. all q (omega arith)) in
    elim (Contains-append_cases (range_with_len 0 k) before.0 k (Contains-permutation xs _ k before.1 (all k (omega arith)))) [
      | inl early ↦ absurd (omega (arith, early.1, early.2, length-range_with_len 0 k, get_or-range_with_len 0 k early.0 k))
      | inr there ↦
          let left : List ℕ = remove before.0 there.0 in
          let more = simp add-one at (simp map-id at (map-range_with_len_more (λ x. x) 0 k k (omega arith))) in
          (left, subst (λ l. IsPermutation xs (l ++ left)) (sym more) (IsPermutation-more xs _ before.0 there.0 k there.1 (sym there.2) before.1))
    ]

-- and has them alone, where it has as many
pub permuted : (xs : List ℕ) (n : ℕ) → length xs ≡ n → ((q : ℕ) → q < n → Contains xs q) → IsPermutation xs (range_with_len 0 n)
permuted xs n long all =
    let found = gathered xs n all in
    let moved = simp (length-append, length-range_with_len) at (length_permutation xs (range_with_len 0 n ++ found.0) found.1) in
    let none : length found.0 ≡ 0 = omega arith in
    rw (nil_from_length found.0 none, append-nil) at found.1

pub below_permuted : (xs : List ℕ) (n s : ℕ) → IsPermutation xs (range_with_len 0 n) → s < length xs → get_or xs s 0 < n
below_permuted xs n s moved h =
    let there = Contains-permutation xs (range_with_len 0 n) _ moved (Contains-get_or xs s 0 h) in
    omega (arith, there.1, there.2, length-range_with_len 0 n, get_or-range_with_len 0 n there.0 (get_or xs s 0))

-- where they differ and are below n, none is missing, since with it they would be too many
pub different_permuted : (xs : List ℕ) (n : ℕ) → length xs ≡ n → ((i : ℕ) → i < n → get_or xs i 0 < n)
    → ((i j : ℕ) → i < n → j < n → get_or xs i 0 ≡ get_or xs j 0 → i ≡ j) → IsPermutation (range_with_len 0 n) xs
different_permuted xs n long below apart = IsPermutation-sym xs _ (permuted xs n long (λ q h. elim (cases_Bool (list_any (nat_eq q) xs)) [
  | inl any ↦ Contains-from_any eqb-true q xs any
  | inr none ↦
      let distinct = IsDistinct-from_apart nat_eq xs (λ i j d less l. ne_eqb _ _ (λ e. let same = apart i j in grind (arith, get_or_default))) in
      let all = All-push (λ x. x < n) xs q (All-from_get_or (λ x. x < n) xs 0 (λ i l. below i (omega arith))) h in
      let most = length-le_from_distinct_below (xs ++ q ∷ []) n (IsDistinct-push nat_eq_equiv xs q distinct none)
      (λ r e. All-contains (λ x. x < n) (xs ++ q ∷ []) r all (Contains-from_any eqb-true r (xs ++ q ∷ []) e)) in
      absurd (omega (arith, length-append xs (q ∷ [])))
]))
