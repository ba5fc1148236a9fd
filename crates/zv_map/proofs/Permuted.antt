-- A list in another order, and how its elements are pushed one after another.
use Rattle.std.proofs.lemmas.Bool.Decides.{same_from_decides}
use Rattle.std.proofs.lemmas.List.Elements.{All-from_get_or}
use Rattle.std.proofs.lemmas.List.FromFn.{fill_by_all, get_or-range_with_len, length-range_with_len}
use Rattle.std.proofs.lemmas.List.Sorted.{All-permutation, IsPermutation-map, IsPermutation-sym}
use Rattle.std.specs.List.{All, range_with_len}
use Rattle.std.specs.Prelude.{IsPermutation}
use Rattle.zv_map.proofs.Common.{◌≡◌, ℕ, ◌<◌, Bool, true, List, [], length, Err, refl, arith, takes_pushes, Bytes, nth, permuted}
use Rattle.zv_map.specs.Refusals.{TooLargeUnless}
use Rattle.zv_map.specs.declared.error.MapError.{MapError}
use Rattle.zv_map.specs.declared.error.MapError.TheVariants.{TooLarge, Memory}

-- in another order a list has the same elements
pub same_elements : (xs : List Bytes) (places : List ℕ) → IsPermutation (range_with_len 0 (length xs)) places → IsPermutation xs (permuted xs places)
same_elements xs places h =
    rw (← fill_by_all (λ i. nth xs i) xs (length xs) [] refl (λ k b. refl)) at (IsPermutation-map (λ i. nth xs i) _ _ h)

pub places_within : (n : ℕ) (places : List ℕ) → IsPermutation (range_with_len 0 n) places → All (λ i. i < n) places
places_within n places h =
    All-permutation (λ i. i < n) _ _ h (All-from_get_or (λ i. i < n) _ 0
    (λ i b. let within : i < n = omega (arith, b, length-range_with_len 0 n) in omega (arith, get_or-range_with_len 0 n i 0 within)))

-- elements are taken alike in any order, where those that are taken in one order are taken in each
pub taken_alike : (takes : List Bytes → ℕ → Bool) →
    ((xs ys : List Bytes) → IsPermutation xs ys → takes_pushes takes [] xs ≡ true → takes_pushes takes [] ys ≡ true) →
    (xs : List Bytes) (places : List ℕ) → IsPermutation (range_with_len 0 (length xs)) places →
    takes_pushes takes [] xs ≡ takes_pushes takes [] (permuted xs places)
taken_alike takes any xs places h =
    let p = same_elements xs places h in
    same_from_decides _ _ (λ e. e, λ e. e) (any _ _ (IsPermutation-sym _ _ p), any _ _ p)

-- what the size rule takes is refused only where an allocation fails
pub only_memory : (A : Type 0) (takes : Bool) (e : MapError) → takes ≡ true → TooLargeUnless {A = A} takes (Err e) → e ≡ Memory
only_memory A takes TooLarge t h = cc
only_memory A takes Memory t h = refl
