-- Where the elements of a list start, and the numbers that say so.
use Rattle.zv_owned.proofs.Common.{[], ◌++◌, ◌+◌, ◌<◌, ◌^◌, ◌∷◌, ◌≡◌, ◌≤◌, AllByRecursion, List, ap, arith, concat, length, length-append, refl, remove, set}
use Rattle.zv_owned.proofs.Common.{slice_index_or, starts_from, suc, true, zero, ℕ}
use Rattle.std.specs.List.{list_all}
use Rattle.zv_var.specs.Format.{fits}

-- the starts of two lists, one after the other
pub starts_from-append : (n : ℕ) (xs ys : List (List ℕ)) → starts_from n (xs ++ ys) ≡ starts_from n xs ++ starts_from (n + length (concat xs)) ys
starts_from-append n [] ys = ap (λ (k : ℕ). starts_from k ys) (omega arith)
starts_from-append n (x ∷ xs) ys =
    let e : n + length x + length (concat xs) ≡ n + length (x ++ concat xs) = omega (arith, length-append x (concat xs)) in
    rw (← e, starts_from-append (n + length x) xs ys) refl

-- each start of xs is below m, if the first is n
abbrev pub AreBelow : ℕ → ℕ → List (List ℕ) → Type 0
AreBelow m n xs = AllByRecursion (λ s. s < m) (starts_from n xs)

-- so it is if the end of the last one is
pub below_end : (m n : ℕ) (xs : List (List ℕ)) → n + length (concat xs) < m → AreBelow m n xs
below_end m n [] h = tt
below_end m n (x ∷ xs) h = (omega arith, below_end m (n + length x) xs (omega (arith, length-append x (concat xs))))

-- starts that were lowered
pub below_lower : (m a n : ℕ) (xs : List (List ℕ)) → a ≤ n → AreBelow m n xs → AreBelow m a xs
below_lower m a n [] h f = tt
below_lower m a n (x ∷ xs) h f = (omega (arith, f.0), below_lower m (a + length x) (n + length x) xs (omega arith) f.1)

-- an element in place of one that isn't shorter, and one that goes
pub below_set : (m n : ℕ) (xs : List (List ℕ)) (i : ℕ) (e : List ℕ) → length e ≤ length (slice_index_or xs i []) → AreBelow m n xs → AreBelow m n (set xs i e)
below_set m n [] i e h f = tt
below_set m n (x ∷ xs) zero e h f = (f.0, below_lower m (n + length e) (n + length x) xs (omega arith) f.1)
below_set m n (x ∷ xs) (suc i) e h f = (f.0, below_set m (n + length x) xs i e h f.1)

pub below_remove : (m n : ℕ) (xs : List (List ℕ)) (i : ℕ) → AreBelow m n xs → AreBelow m n (remove xs i)
below_remove m n [] zero f = tt
below_remove m n [] (suc i) f = tt
below_remove m n (x ∷ xs) zero f = below_lower m n (n + length x) xs (omega arith) f.1
below_remove m n (x ∷ xs) (suc i) f = (f.0, below_remove m (n + length x) xs i f.1)

pub all_fit : (w : ℕ) (ss : List ℕ) → AllByRecursion (λ s. s < 256 ^ w) ss → list_all (fits w) ss ≡ true
all_fit w [] h = refl
all_fit w (s ∷ ss) h = grind (arith, h.0, all_fit w ss h.1)
