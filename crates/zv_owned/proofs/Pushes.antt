-- Elements that join a list one after another.
use Rattle.zv_owned.proofs.Common.{[], ◌++◌, ◌-◌, ◌<◌, ◌^◌, ◌∷◌, ◌≡◌, ◌≤◌, Bool, List, append_assoc, arith, length, max_of, refl, size, suc, takes_insert, true}
use Rattle.zv_owned.proofs.Common.{zero, ℕ}
use Rattle.std.proofs.Common.{nat_le, nat_lt}
use Rattle.std.proofs.lemmas.List.Sorted.{length_permutation, sum_by-IsPermutation}
use Rattle.std.specs.Prelude.{IsPermutation}
use Rattle.zv_owned.proofs.Sizes.{one_encoded, size_append, size_total}
use Rattle.zv_owned.specs.Size.{takes_pushes}

-- where every list takes every element
pub always_taken : (xs es : List (List ℕ)) → takes_pushes (λ _ _. true) xs es ≡ true
always_taken xs [] = refl
always_taken xs (e ∷ es) = always_taken (xs ++ (e ∷ [])) es

module _ (w : ℕ) (some : 0 < w) (narrow : 256 ^ w ≤ 2 ^ 32) where
  -- a list that isn't empty takes them exactly where the whole is within what a field holds
  pushed : (x : List ℕ) (xs : List (List ℕ)) (e : List ℕ) (es : List (List ℕ)) →
      takes_pushes (takes_insert w) (x ∷ xs) (e ∷ es) ≡ nat_le (size w (x ∷ (xs ++ (e ∷ es)))) (max_of w)
  pushed x xs e [] = rw (size_append w (x ∷ xs) (e ∷ []), one_encoded w e) (grind arith)
  pushed x xs e (f ∷ es) =
      let long = size_append w (x ∷ xs) (e ∷ f ∷ es) in
      let rest = size_append w (e ∷ []) (f ∷ es) in
      rw (pushed x (xs ++ (e ∷ [])) f es, append_assoc xs (e ∷ []) (f ∷ es)) (grind (arith, one_encoded w e))

  -- whether an empty list takes several depends on their count and on their size alone
  abbrev taken_by : ℕ → ℕ → Bool
  taken_by zero n = true
  taken_by (suc zero) n = nat_lt (n - w) (max_of w)
  taken_by (suc (suc k)) n = nat_le n (max_of w)

  list_taken : (xs : List (List ℕ)) → takes_pushes (takes_insert w) [] xs ≡ taken_by (length xs) (size w xs)
  list_taken [] = refl
  list_taken (x ∷ []) = grind (arith, one_encoded w x)
  list_taken (x ∷ y ∷ ys) =
      let long = size_append w (x ∷ []) (y ∷ ys) in
      let rest = size_append w (y ∷ []) ys in
      rw (pushed x [] y ys) (grind (arith, one_encoded w x, one_encoded w y))

  pub several_taken : (xs : List (List ℕ)) → 1 < length xs → takes_pushes (takes_insert w) [] xs ≡ nat_le (size w xs) (max_of w)
  several_taken [] h = absurd (omega arith)
  several_taken (x ∷ []) h = absurd (omega arith)
  several_taken (x ∷ y ∷ ys) h = list_taken (x ∷ y ∷ ys)

  pub any_order : (xs ys : List (List ℕ)) → IsPermutation xs ys → takes_pushes (takes_insert w) [] xs ≡ true → takes_pushes (takes_insert w) [] ys ≡ true
  any_order xs ys p t =
      let count = length_permutation xs ys p in
      let bytes = sum_by-IsPermutation (λ x. length x) xs ys p in
      rw (list_taken ys, size_total w ys, count, bytes) (rw (list_taken xs, size_total w xs) at t)
