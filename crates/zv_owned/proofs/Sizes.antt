-- How many bytes a list is written as.
use Rattle.zv_owned.proofs.Common.{[], ◌*◌, ◌++◌, ◌+◌, ◌∙◌, ◌∷◌, ◌≡◌, List, add-one, ap, arith, concat, concat-append, length, length-append, mul-add, mul-zero}
use Rattle.zv_owned.proofs.Common.{refl, size, ℕ}
use Rattle.std.proofs.Math.Nat.{mul-one}
use Rattle.std.proofs.lemmas.List.Concat.{concat_is, length-flat_map}
use Rattle.std.specs.List.{sum_by}
use Rattle.zv_var.proofs.Encoding.{length-enc}

pub size_of : (w : ℕ) (xs : List (List ℕ)) → size w xs ≡ w * length xs + length (concat xs)
size_of w [] = omega (arith, mul-zero w)
size_of w (x ∷ xs) = length-enc w x xs ∙ rw add-one refl

pub size_append : (w : ℕ) (xs ys : List (List ℕ)) → size w (xs ++ ys) ≡ size w xs + size w ys
size_append w xs ys = rw (size_of w (xs ++ ys), size_of w xs, size_of w ys, concat-append xs ys)
    (simp (length-append, mul-add) (omega arith))

pub one_encoded : (w : ℕ) (x : List ℕ) → size w (x ∷ []) ≡ w + length x
one_encoded w x = omega (arith, size_of w (x ∷ []), mul-one w, length-append x [])

pub size_total : (w : ℕ) (xs : List (List ℕ)) → size w xs ≡ w * length xs + sum_by (λ x. length x) xs
size_total w xs = size_of w xs ∙ ap (λ (n : ℕ). w * length xs + n) (ap length (concat_is xs) ∙ length-flat_map (λ x. x) xs)
