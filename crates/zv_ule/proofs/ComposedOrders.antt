-- Composed values that compare Equal have parts that do.
use Rattle.zv_ule.proofs.Common.{◌≡◌, List, [], ◌∷◌, Some, None, refl, ap, slice_cmp, AllByRecursion, ordering_then, Ordering, Less, Equal, Greater}
use Rattle.std.specs.Prelude.{IfSome}
use Rattle.std.specs.Option.{option_cmp}
use Rattle.zv_ule.specs.Orders.{EqualOnlyIfSame}

pub both_equal : (a b : Ordering) → ordering_then a b ≡ Equal → (a ≡ Equal) × (b ≡ Equal)
both_equal Less b e = cc
both_equal Equal b e = (refl, e)
both_equal Greater b e = cc

pub same_options : {T : Type 0} {is_value : T → Type 0} {cmp : T → T → Ordering} → EqualOnlyIfSame is_value cmp → EqualOnlyIfSame (λ o. IfSome o is_value)
    (option_cmp cmp)
same_options same None None h k e = refl
same_options same None (Some w) h k e = cc
same_options same (Some v) None h k e = cc
same_options same (Some v) (Some w) h k e = ap Some (same v w h k e)

-- tuples whose parts are the same
pub same_three : {A B C : Type 0} (v w : A × B × C) → v.0 ≡ w.0 → v.1 ≡ w.1 → v.2 ≡ w.2 → v ≡ w
same_three v w p0 p1 p2 = λ i. (p0 i, p1 i, p2 i)

pub same_four : {A B C D : Type 0} (v w : A × B × C × D) → v.0 ≡ w.0 → v.1 ≡ w.1 → v.2 ≡ w.2 → v.3 ≡ w.3 → v ≡ w
same_four v w p0 p1 p2 p3 = λ i. (p0 i, p1 i, p2 i, p3 i)

pub same_five : {A B C D E : Type 0} (v w : A × B × C × D × E) → v.0 ≡ w.0 → v.1 ≡ w.1 → v.2 ≡ w.2 → v.3 ≡ w.3 → v.4 ≡ w.4 → v ≡ w
same_five v w p0 p1 p2 p3 p4 = λ i. (p0 i, p1 i, p2 i, p3 i, p4 i)

pub same_six : {A B C D E F : Type 0} (v w : A × B × C × D × E × F) → v.0 ≡ w.0 → v.1 ≡ w.1 → v.2 ≡ w.2 → v.3 ≡ w.3 → v.4 ≡ w.4 → v.5 ≡ w.5 → v ≡ w
same_six v w p0 p1 p2 p3 p4 p5 = λ i. (p0 i, p1 i, p2 i, p3 i, p4 i, p5 i)

pub same_lists : {T : Type 0} {is_value : T → Type 0} {cmp : T → T → Ordering} → EqualOnlyIfSame is_value cmp → (xs ys : List T) → AllByRecursion is_value xs →
    AllByRecursion is_value ys → slice_cmp cmp xs ys ≡ Equal → xs ≡ ys
same_lists same [] [] h k e = refl
same_lists same [] (y ∷ ys) h k e = cc
same_lists same (x ∷ xs) [] h k e = cc
same_lists {cmp = cmp} same (x ∷ xs) (y ∷ ys) h k e =
    let p = both_equal (cmp x y) (slice_cmp cmp xs ys) e in
    let first = same x y h.0 k.0 p.0 in
    let rest = same_lists same xs ys h.1 k.1 p.1 in
    λ i. first i ∷ rest i
