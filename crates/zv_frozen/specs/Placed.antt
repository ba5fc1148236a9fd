-- Whether hashes have a placement.
use Rattle.std.specs.Prelude.{◌≡◌, ◌↔◌, ℕ, zero, suc, Bool, true, false, ◌||◌, List, [], ◌∷◌}
use Rattle.std.specs.Prelude.{length}
use Rattle.zv_hash.specs.Placement.{Chosen}
use Rattle.zv_hash.proofs.Decide.{chosen_test}

-- whether a test passes of a number below n
abbrev pub some_below : ℕ → (ℕ → Bool) → Bool
some_below zero p = false
some_below (suc n) p = p n || some_below n p

-- whether a test passes of k displacements, of numbers below n
abbrev pub some_list : ℕ → ℕ → (List (ℕ × ℕ) → Bool) → Bool
some_list n zero p = p []
some_list n (suc k) p =
    some_below n (λ a. some_below n (λ b. some_list n k (λ ds. p ((a, b) ∷ ds))))

-- whether some displacements are the chosen ones
unfoldable pub is_placed : List ℕ → Bool
is_placed hs = some_list (suc (length hs)) (length hs) (λ ds. (chosen_test hs ds).0)

-- that test passes exactly where there are chosen displacements
abbrev pub PlacedTested : Type 0
PlacedTested = (hs : List ℕ) → (is_placed hs ≡ true) ↔ ((ds : List (ℕ × ℕ)) × Chosen hs ds)
