-- The keys and the values of a map have no fault.
use Rattle.std.proofs.Common.{◌≡◌, true, List, [], ◌∷◌, None, refl, arith}
use Rattle.std.proofs.lemmas.Bool.Decides.{nat_tests}
use Rattle.std.proofs.lemmas.List.{length-map}
use Rattle.std.specs.List.Sorted.{IsStrictlySortedBy}
use Rattle.zv_map1.specs.Building.{columns_fault}
use Rattle.zv_map1.specs.Views.{Bytes, IsMap, Order, Pairs, keys_of, values_of}
use Rattle.zv_map.specs.Keys.{ascends}

-- keys in strict order pass the test of a parse
ascends_from_sorted : (order : Order) (xs : List Bytes) → IsStrictlySortedBy order xs → ascends order xs ≡ true
unfolding IsStrictlySortedBy
ascends_from_sorted order [] up = refl
ascends_from_sorted order (x ∷ []) up = refl
ascends_from_sorted order (x ∷ y ∷ ys) up = rw up.0.0 (ascends_from_sorted order (y ∷ ys) up.1)

pub columns_sound : (order : Order) (m : Pairs) → IsMap order m → columns_fault order (keys_of m) (values_of m) ≡ None
columns_sound order m up =
    grind (arith, nat_tests, length-map m (λ p. p.0), length-map m (λ p. p.1), ascends_from_sorted order (keys_of m) up)
