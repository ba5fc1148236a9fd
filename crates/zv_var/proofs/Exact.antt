-- Lists that compare Equal are the same, where elements that do are.
use Rattle.zv_var.proofs.Common.{◌≡◌, ℕ, ◌+◌, ◌<◌, ◌≤◌, List, [], ◌∷◌, ◌++◌, length, arith, length-append, take_at, drop_at, refl, Option, None}
use Rattle.zv_var.proofs.Common.{flat_map, concat, AllByRecursion, le, UleError, Part, AreValid, elements, list_fault, starts}
use Rattle.std.specs.Cmp.{IsTotalOrder}
use Rattle.std.specs.Cmp.Lexicographic.{slice_cmp}
use Rattle.std.specs.declared.cmp.Ordering.{Ordering}
use Rattle.std.specs.declared.cmp.Ordering.TheVariants.{Equal}
use Rattle.std.proofs.lemmas.Cmp.{lists_total, tied_itself}
use Rattle.std.specs.Prelude.{◌↔◌}
use Rattle.zv_ule.proofs.ComposedOrders.{same_lists}
use Rattle.zv_ule.proofs.Lists.{front_bytes, back_bytes}
use Rattle.zv_ule.specs.Bytes.{IsBytes}
use Rattle.zv_ule.specs.Kinds.{EqualIsSame}
use Rattle.zv_var.proofs.Read.{Part_from_fault, valid_from_fault}

pub parted : (x y : List ℕ) → IsBytes (x ++ y) → IsBytes x × IsBytes y
parted x y h =
    let inside : length x ≤ length (x ++ y) = omega (arith, length-append x y) in
    (rw (take_at x y (length x) refl) at (front_bytes (length x) (x ++ y) h inside), rw (drop_at x y (length x) refl) at (back_bytes (length x) (x ++ y) h))

-- valid elements that are bytes
are_elements : (K : List ℕ → Option UleError) (xs : List (List ℕ)) → IsBytes (concat xs) → AreValid K xs →
    AllByRecursion (λ x. IsBytes x × (K x ≡ None)) xs
are_elements K [] h v = tt
are_elements K (x ∷ xs) h v = let p = parted x (concat xs) h in ((p.0, v.0), are_elements K xs p.1 v.1)

concat_bytes : (w : ℕ) (b : List ℕ) (xs : List (List ℕ)) → IsBytes b → Part w b xs → IsBytes (concat xs)
concat_bytes w b [] h p = record { at = λ i. omega arith }
concat_bytes w b (x ∷ xs) h p =
    (parted (flat_map (le w) (starts (x ∷ xs))) (concat (x ∷ xs)) (parted (le w (length xs + 1)) _ (rw p.1 at h)).1).1

read_elements : (w : ℕ) (K : List ℕ → Option UleError) (b : List ℕ) → 0 < w → IsBytes b → list_fault w K b ≡ None →
    AllByRecursion (λ x. IsBytes x × (K x ≡ None)) (elements w b)
read_elements w K b some h f =
    are_elements K (elements w b) (concat_bytes w b (elements w b) h (Part_from_fault w K b some h f)) (valid_from_fault w K b some h f)

-- Lists without a fault compare Equal exactly where their elements are the same.
pub equal_lists : (w : ℕ) (K : List ℕ → Option UleError) (cmp : List ℕ → List ℕ → Ordering) (a b : List ℕ) → 0 < w → IsTotalOrder cmp → EqualIsSame K cmp →
    IsBytes a → IsBytes b → list_fault w K a ≡ None → list_fault w K b ≡ None →
    (slice_cmp cmp (elements w a) (elements w b) ≡ Equal) ↔ (elements w a ≡ elements w b)
equal_lists w K cmp a b some total same bytes_a bytes_b good_a good_b = (
  same_lists (λ x y p q e. same x y p.0 q.0 p.1 q.1 e) (elements w a) (elements w b) (read_elements w K a some bytes_a good_a)
      (read_elements w K b some bytes_b good_b),
  λ e. rw e (tied_itself (lists_total total) (elements w b)),
)
