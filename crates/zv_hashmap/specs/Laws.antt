-- Keys that compare Equal are hashed alike. These are proofs.
use Rattle.std.specs.Prelude.{◌≡◌, ℕ, List, [], ◌∷◌, refl}
use Rattle.std.proofs.Common.{ap, arith}
use Rattle.std.proofs.lemmas.Map.Lookups.{CmpEqualImpliesEq}
use Rattle.std.specs.Cmp.Lexicographic.{slice_cmp}
use Rattle.std.specs.Ordering.{on, ordering_then}
use Rattle.std.specs.declared.cmp.Ordering.{Ordering}
use Rattle.std.specs.declared.cmp.Ordering.TheVariants.{Equal}

-- what is read and then hashed, by an order of what is read
pub alike_by : {V : Type 0} {cmp : V → V → Ordering} (read : List ℕ → V) (hash : V → List ℕ) →
    CmpEqualImpliesEq cmp → (a b : List ℕ) → on read cmp a b ≡ Equal →
    hash (read a) ≡ hash (read b)
alike_by read hash exact a b e = ap hash (exact (read a) (read b) e)

-- tuples that compare Equal are the same, where their parts are
pub exact_three : {A B C : Type 0} (c0 : A → A → Ordering) (c1 : B → B → Ordering)
    (c2 : C → C → Ordering) → CmpEqualImpliesEq c0 → CmpEqualImpliesEq c1 → CmpEqualImpliesEq c2 →
    CmpEqualImpliesEq (λ (v w : A × B × C).
    ordering_then (ordering_then (c0 v.0 w.0) (c1 v.1 w.1)) (c2 v.2 w.2))
exact_three c0 c1 c2 h0 h1 h2 v w e =
    grind (arith, h0 v.0 w.0, h1 v.1 w.1, h2 v.2 w.2)

pub exact_four : {A B C D : Type 0} (c0 : A → A → Ordering) (c1 : B → B → Ordering)
    (c2 : C → C → Ordering) (c3 : D → D → Ordering) → CmpEqualImpliesEq c0 →
    CmpEqualImpliesEq c1 → CmpEqualImpliesEq c2 → CmpEqualImpliesEq c3 →
    CmpEqualImpliesEq (λ (v w : A × B × C × D).
    ordering_then
    (ordering_then (ordering_then (c0 v.0 w.0) (c1 v.1 w.1)) (c2 v.2 w.2))
    (c3 v.3 w.3))
exact_four c0 c1 c2 c3 h0 h1 h2 h3 v w e =
    grind (arith, h0 v.0 w.0, h1 v.1 w.1, h2 v.2 w.2, h3 v.3 w.3)

pub exact_five : {A B C D E : Type 0} (c0 : A → A → Ordering) (c1 : B → B → Ordering)
    (c2 : C → C → Ordering) (c3 : D → D → Ordering) (c4 : E → E → Ordering) →
    CmpEqualImpliesEq c0 → CmpEqualImpliesEq c1 → CmpEqualImpliesEq c2 → CmpEqualImpliesEq c3 →
    CmpEqualImpliesEq c4 →
    CmpEqualImpliesEq (λ (v w : A × B × C × D × E).
    ordering_then
    (ordering_then
    (ordering_then (ordering_then (c0 v.0 w.0) (c1 v.1 w.1)) (c2 v.2 w.2))
    (c3 v.3 w.3))
    (c4 v.4 w.4))
exact_five c0 c1 c2 c3 c4 h0 h1 h2 h3 h4 v w e =
    grind (arith, h0 v.0 w.0, h1 v.1 w.1, h2 v.2 w.2, h3 v.3 w.3, h4 v.4 w.4)

pub exact_six : {A B C D E F : Type 0} (c0 : A → A → Ordering) (c1 : B → B → Ordering)
    (c2 : C → C → Ordering) (c3 : D → D → Ordering) (c4 : E → E → Ordering)
    (c5 : F → F → Ordering) → CmpEqualImpliesEq c0 → CmpEqualImpliesEq c1 → CmpEqualImpliesEq c2 →
    CmpEqualImpliesEq c3 → CmpEqualImpliesEq c4 → CmpEqualImpliesEq c5 →
    CmpEqualImpliesEq (λ (v w : A × B × C × D × E × F).
    ordering_then
    (ordering_then
    (ordering_then
    (ordering_then (ordering_then (c0 v.0 w.0) (c1 v.1 w.1)) (c2 v.2 w.2))
    (c3 v.3 w.3))
    (c4 v.4 w.4))
    (c5 v.5 w.5))
exact_six c0 c1 c2 c3 c4 c5 h0 h1 h2 h3 h4 h5 v w e =
    grind (arith, h0 v.0 w.0, h1 v.1 w.1, h2 v.2 w.2, h3 v.3 w.3, h4 v.4 w.4, h5 v.5 w.5)

-- and so are lists
pub exact_lists : {A : Type 0} (cmp : A → A → Ordering) → CmpEqualImpliesEq cmp →
    CmpEqualImpliesEq (slice_cmp cmp)
exact_lists cmp exact [] [] e = refl
exact_lists cmp exact [] (y ∷ ys) e = cc
exact_lists cmp exact (x ∷ xs) [] e = cc
exact_lists cmp exact (x ∷ xs) (y ∷ ys) e =
    grind (arith, exact x y, exact_lists cmp exact xs ys)
