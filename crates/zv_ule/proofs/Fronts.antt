-- Two strings with the same front compare as what is behind it.
use Rattle.zv_ule.proofs.Common.{◌≡◌, ℕ, ◌+◌, ◌≤◌, List, [], ◌∷◌, ◌++◌, length, drop, take, length-drop, arith, refl, sym, ap, ◌∙◌}
use Rattle.zv_ule.proofs.Common.{◌-◌, subst, nat_cmp_is, slice_cmp, nat_cmp, ordering_then, Ordering, Less, Equal, Greater}
use Rattle.std.proofs.Common.{min}
use Rattle.std.proofs.Math.Seq.{take-add}
use Rattle.std.proofs.lemmas.List.{take-append-drop, take-take, take_rest}
use Rattle.zv_ule.specs.Fronts.{OrdersFront}

append_front : (front a b : List ℕ) → slice_cmp nat_cmp (front ++ a) (front ++ b) ≡ slice_cmp nat_cmp a b
append_front [] a b = refl
append_front (x ∷ front) a b =
    ap (λ o. ordering_then o (slice_cmp nat_cmp (front ++ a) (front ++ b))) (sym (nat_cmp_is x x Equal refl)) ∙ append_front front a b

behind : (n : ℕ) (a b : List ℕ) → take n a ≡ take n b → slice_cmp nat_cmp (drop n a) (drop n b) ≡ slice_cmp nat_cmp a b
behind n a b same = sym (append_front (take n a) (drop n a) (drop n b))
    ∙ (λ i. slice_cmp nat_cmp (take-append-drop n a i) ((ap (λ front. front ++ drop n b) same ∙ take-append-drop n b) i))

-- where one is read to its end, the lengths decide
pub ends : (x y : List ℕ) (m n i : ℕ) → length x + i ≡ m → length y + i ≡ n → min m n ≤ i → slice_cmp nat_cmp x y ≡ nat_cmp m n
ends [] [] m n i a b h = nat_cmp_is m n Equal (omega arith)
ends [] (y ∷ ys) m n i a b h = nat_cmp_is m n Less (omega arith)
ends (x ∷ xs) [] m n i a b h = nat_cmp_is m n Greater (omega arith)
ends (x ∷ xs) (y ∷ ys) m n i a b h = absurd (omega arith)

-- an order that goes first in that of the strings, and is Equal for one front alone
pub front_first : (a b : List ℕ) (n : ℕ) (o after : Ordering) → ordering_then o after ≡ slice_cmp nat_cmp a b
    → (o ≡ Equal → take n a ≡ take n b) → OrdersFront a b n o
unfolding OrdersFront
front_first a b n Less after whole same = sym whole
front_first a b n Equal after whole same = same refl
front_first a b n Greater after whole same = sym whole

-- behind the same front
pub front_behind : (k n : ℕ) (a b : List ℕ) (o : Ordering) → take k a ≡ take k b → OrdersFront (drop k a) (drop k b) n o → OrdersFront a b (k + n) o
unfolding OrdersFront
front_behind k n a b Less same rest = sym (behind k a b same) ∙ rest
front_behind k n a b Equal same rest = take-add k n a ∙ (λ i. same i ++ rest i) ∙ sym (take-add k n b)
front_behind k n a b Greater same rest = sym (behind k a b same) ∙ rest

-- one that is not Equal is that of the strings, whatever was compared
pub front_decides : (a b : List ℕ) (n : ℕ) (o : Ordering) → (o ≡ Equal → ⊥) → OrdersFront a b n o → o ≡ slice_cmp nat_cmp a b
unfolding OrdersFront
front_decides a b n Less other front = sym front
front_decides a b n Equal other front = absurd (other refl)
front_decides a b n Greater other front = sym front

pub front_any : (a b : List ℕ) (m n : ℕ) (o : Ordering) → (o ≡ Equal → ⊥) → OrdersFront a b m o → OrdersFront a b n o
unfolding OrdersFront
front_any a b m n Less other front = front
front_any a b m n Equal other front = absurd (other refl)
front_any a b m n Greater other front = front

-- where one is the front of the other, the lengths decide
pub front_is_all : (a b : List ℕ) (n : ℕ) → n ≡ min (length a) (length b) → take n a ≡ take n b → nat_cmp (length a) (length b) ≡ slice_cmp nat_cmp a b
front_is_all a b n all same =
    sym (ends (drop n a) (drop n b) (length a) (length b) n (omega (arith, length-drop n a, all)) (omega (arith, length-drop n b, all)) (omega (arith, all)))
    ∙ behind n a b same

pub front_same : (a b : List ℕ) (n : ℕ) (o : Ordering) → o ≡ Equal → OrdersFront a b n o → take n a ≡ take n b
unfolding OrdersFront
front_same a b n o is front = subst (OrdersFront a b n) is front

pub front_shorter : (a b : List ℕ) (m n : ℕ) → m ≤ n → take n a ≡ take n b → take m a ≡ take m b
front_shorter a b m n less same = sym (take-take m n a less) ∙ ap (take m) same ∙ take-take m n b less

-- behind the same front, as slices are cut
pub front_at : (k n m : ℕ) (a b : List ℕ) (o : Ordering) → k + n ≡ m → take k a ≡ take k b
    → OrdersFront (take (length a - k) (drop k a)) (take (length b - k) (drop k b)) n o → OrdersFront a b m o
front_at k n m a b o is_m same rest =
    subst (λ count. OrdersFront a b count o) is_m
    (front_behind k n a b o same (subst (λ xs. OrdersFront xs (drop k b) n o) (take_rest a k)
    (subst (λ ys. OrdersFront (take (length a - k) (drop k a)) ys n o) (take_rest b k) rest)))
