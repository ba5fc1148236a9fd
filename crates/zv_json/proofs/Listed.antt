-- Items and the list of them.
use Rattle.std.proofs.Common.{◌≡◌, List, [], ◌∷◌, refl, ap}
use Rattle.serde_json.specs.Data.{Data}
use Rattle.serde_json.specs.View.{items_of}
use Rattle.zv_json.specs.Json.{list_of}

pub items_listed : (ds : List Data) → list_of (items_of ds) ≡ ds
items_listed [] = refl
items_listed (d ∷ ds) = ap (λ xs. d ∷ xs) (items_listed ds)
