-- Hashes have a placement exactly where trying all displacements finds one.
use Rattle.zv_frozen.proofs.Common.{◌<◌, ◌∷◌, ◌≡◌, All-from_get_or, AllByRecursion, Bool, Chosen, Decides, Decides-below_or, List, [], arith, cases_lt}
use Rattle.zv_frozen.proofs.Common.{displacement, inl, inr, length, recursion_from_All, refl, subst, suc, true, zero, ℕ}
use Rattle.zv_hash.proofs.Decide.{chosen_test}
use Rattle.zv_hash.specs.Placement.{size}
use Rattle.zv_frozen.specs.Placed.{PlacedTested, is_placed, some_below, some_list}

-- a displacement is of numbers below n
abbrev IsBelow : ℕ → ℕ × ℕ → Type 0
IsBelow n d = (d.0 < n) × (d.1 < n)

module _ (n : ℕ) where
  some : (p : ℕ → Bool) → Decides (some_below n p) ((i : ℕ) × (i < n) × (p i ≡ true))
  some p = Decides-below_or p (λ i. p i ≡ true) (λ m. some_below m p) (λ i. (λ e. e, λ e. e)) refl (λ _. refl) n

  list_passes : (p : List (ℕ × ℕ) → Bool) (ds : List (ℕ × ℕ)) → AllByRecursion (IsBelow n) ds → p ds ≡ true → some_list n (length ds) p ≡ true
  list_passes p [] below e = e
  list_passes p (d ∷ ds) below e =
      (some _).1 (d.0, below.0.0, (some _).1 (d.1, below.0.1, list_passes (λ es. p (d ∷ es)) ds below.1 e))

  some_list_passes : (k : ℕ) (p : List (ℕ × ℕ) → Bool) → some_list n k p ≡ true → (ds : List (ℕ × ℕ)) × (p ds ≡ true)
  some_list_passes zero p e = ([], e)
  some_list_passes (suc k) p e =
      let (a, _, first) = (some _).0 e in
      let (b, _, second) = (some _).0 first in
      let (ds, passes) = some_list_passes k (λ es. p ((a, b) ∷ es)) second in
      ((a, b) ∷ ds, passes)

-- each chosen displacement is among those that are tried
is_tried : (hs : List ℕ) (ds : List (ℕ × ℕ)) → Chosen hs ds → (g : ℕ) → g < length ds → IsBelow (suc (length hs)) (displacement ds g)
is_tried hs ds chosen g h = elim (cases_lt 0 (size hs g)) [
  | inl many ↦ let one = (chosen.choices g (omega (arith, chosen.len)) many).candidate in (omega (arith, one.first), omega (arith, one.second))
  | inr none ↦ rw (chosen.empty g (omega (arith, chosen.len)) (omega arith)) (omega arith, omega arith)
]

pub placed : (hs : List ℕ) (ds : List (ℕ × ℕ)) → Chosen hs ds → is_placed hs ≡ true
unfolding is_placed
placed hs ds chosen =
    let n = suc (length hs) in
    let below = recursion_from_All (IsBelow n) ds (All-from_get_or (IsBelow n) ds (0, 0) (is_tried hs ds chosen)) in
    subst (λ k. some_list n k (λ es. (chosen_test hs es).0) ≡ true) chosen.len (list_passes n _ ds below ((chosen_test hs ds).1.1 chosen))

pub chosen_of : (hs : List ℕ) → is_placed hs ≡ true → (ds : List (ℕ × ℕ)) × Chosen hs ds
unfolding is_placed
chosen_of hs e = let (ds, passes) = some_list_passes (suc (length hs)) (length hs) _ e in (ds, (chosen_test hs ds).1.0 passes)

pub placed_tested : PlacedTested
placed_tested hs = (chosen_of hs, λ is. placed hs is.0 is.1)
