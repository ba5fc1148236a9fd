-- Starts in order, and what they say of faults.
use Rattle.zv_var.proofs.Common.{◌≡◌, ℕ, ◌≤◌, true, List, [], ◌∷◌, ◌++◌, length, Option, None, slice_range, ◌∙◌, arith, nat_le, AllByRecursion, and_parts}
use Rattle.zv_var.proofs.Common.{elements_fault, UleError, in_order}
use Rattle.std.proofs.lemmas.Bool.{leb-true}
use Rattle.zv_var.proofs.Turns.{fault_later}

-- what rises to n begins at most there
before_end : (s n : ℕ) (es : List ℕ) → in_order s es n ≡ true → s ≤ n
before_end s n [] e = leb-true s n e
before_end s n (x ∷ xs) e = grind (arith, before_end x n xs)

-- any part between boundaries is an element
pub none_between : (K : List ℕ → Option UleError) (d : List ℕ) (C : ℕ → Type 0)
    (free : (a b : ℕ) → a ≤ b → b ≤ length d → C a → C b → K (slice_range d a b) ≡ None) (last : C (length d)) (s : ℕ) (es : List ℕ) → C s →
    AllByRecursion C es → in_order s es (length d) ≡ true → elements_fault K d s (es ++ length d ∷ []) ≡ None
none_between K d C free last s [] h all e =
    let a = leb-true s (length d) e in
    fault_later K d s (length d) [] a (omega arith) (free s (length d) a (omega arith) h last)
none_between K d C free last s (x ∷ xs) h all e =
    let p = and_parts (nat_le s x) (in_order x xs (length d)) e in
    let a = leb-true s x p.0 in
    let b = before_end x (length d) xs p.1 in
    fault_later K d s x (xs ++ length d ∷ []) a b (free s x a b h all.0) ∙ none_between K d C free last x xs all.0 all.1 p.1

-- any part at all
all_units : (es : List ℕ) → AllByRecursion (λ _. Unit) es
all_units [] = tt
all_units (x ∷ xs) = (tt, all_units xs)

pub none_everywhere : (K : List ℕ → Option UleError) (d : List ℕ) → ((a b : ℕ) → a ≤ b → b ≤ length d → K (slice_range d a b) ≡ None) → (s : ℕ) (es : List ℕ) →
    in_order s es (length d) ≡ true → elements_fault K d s (es ++ length d ∷ []) ≡ None
none_everywhere K d free s es e = none_between K d (λ _. Unit) (λ a b h k _ _. free a b h k) tt s es tt (all_units es) e
