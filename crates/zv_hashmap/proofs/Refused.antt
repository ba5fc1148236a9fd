-- Lists that a size rule takes are refused another order only where an allocation fails.
use Rattle.zv_hashmap.proofs.Common.{◌≡◌, ℕ, Bool, true, List, [], length, Result, IfErr, arith, IsPermutation, range_with_len, Bytes, permuted}
use Rattle.zv_map.proofs.Permuted.{same_elements}
use Rattle.zv_map.specs.Refusals.{TooLargeUnless}
use Rattle.zv_map.specs.declared.error.MapError.{MapError}
use Rattle.zv_map.specs.declared.error.MapError.TheVariants.{Memory}
use Rattle.zv_owned.specs.Size.{takes_pushes}

pub memory_alone : {A : Type 0} (takes : List Bytes → ℕ → Bool)
    → ((xs ys : List Bytes) → IsPermutation xs ys → takes_pushes takes [] xs ≡ true → takes_pushes takes [] ys ≡ true)
    → (xs : List Bytes) (places : List ℕ) → IsPermutation (range_with_len 0 (length xs)) places → takes_pushes takes [] xs ≡ true
    → (r : Result A MapError) → TooLargeUnless (takes_pushes takes [] (permuted xs places)) r → IfErr r (λ e. e ≡ Memory)
memory_alone takes any_order xs places all taken r refused =
    let still = any_order xs (permuted xs places) (same_elements xs places all) taken in
    grind arith
