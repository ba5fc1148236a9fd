-- A map that is made of pairs in any order, or of two vectors.
use Rattle.std.specs.Prelude.{◌≡◌, ◌==◌, Bool, true, false, ◌&&◌, cond, List, [], ◌∷◌, length}
use Rattle.std.specs.Prelude.{map, Option, Some, None, Result, Ok, Err, ⊤}
use Rattle.std.specs.List.{fold}
use Rattle.zv_map.specs.Keys.{ascends}
use Rattle.zv_map.specs.declared.error.MapError.{MapError}
use Rattle.zv_map.specs.declared.error.MapError.TheVariants.{TooLarge, Memory}
use Rattle.zv_map1.specs.Fits.{Rule, fits}
use Rattle.zv_map1.specs.Views.{Bytes, Order, Pairs, insert_entry}
use Rattle.zv_map1.specs.declared.error.VecsError.{VecsError}
use Rattle.zv_map1.specs.declared.error.VecsError.TheVariants.{Count, KeyOrder}

-- the map with the pairs inserted, one after another
abbrev pub insert_all : Order → Pairs → Pairs → Pairs
insert_all order m ps = fold (λ z p. insert_entry order z p.0 p.1) m ps

-- each fits in its turn
abbrev pub all_fit : Rule → Order → Pairs → Pairs → Bool
all_fit rule order m [] = true
all_fit rule order m (p ∷ ps) =
    fits rule order m p.0 p.1 && all_fit rule order (insert_entry order m p.0 p.1) ps

-- too large exactly where the size rules say no, unless memory was wanted first
abbrev pub TooLargeOrMemory : {A : Type 0} → Bool → Result A MapError → Type 0
TooLargeOrMemory fits (Ok _) = fits ≡ true
TooLargeOrMemory fits (Err TooLarge) = fits ≡ false
TooLargeOrMemory fits (Err Memory) = ⊤

-- why two lists are not the keys and the values of a map, if they are not
abbrev pub columns_fault : Order → List Bytes → List Bytes → Option VecsError
columns_fault order ks vs =
    cond (length ks == length vs) (cond (ascends order ks) None (Some KeyOrder)) (Some Count)

-- pairs of arguments as the bytes that are written for them
abbrev pub written : {A B : Type 0} → (A → Bytes) → (B → Bytes) → List (A × B) → Pairs
written key value ps = map (λ p. (key p.0, value p.1)) ps
