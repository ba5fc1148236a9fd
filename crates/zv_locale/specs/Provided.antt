-- What a map has for a wanted text.
use Rattle.std.specs.Prelude.{ℕ, List, [], ◌∷◌}
use Rattle.std.specs.Option.{option_and_then, option_map_or}
use Rattle.std.specs.declared.option.Option.{Option}
use Rattle.std.specs.declared.option.Option.TheVariants.{Some, None}
use Rattle.zv_map.specs.Maps.{look_up}
use Rattle.zv_map2d.specs.Image.{by_bytes}
use Rattle.zv_map2d.specs.Rows.{Rows}
use Rattle.zv_locale.specs.Names.{tries}

-- the first of some names that a row has as a second key, and its value
abbrev pub first_found : List (List ℕ × List ℕ) → List (List ℕ) → Option (List ℕ × List ℕ)
first_found row [] = None
first_found row (name ∷ names) =
    option_map_or (λ value. Some (name, value)) (look_up by_bytes row name) (first_found row names)

-- of the names that are tried for a text, the first that the row of a key has, and its value
abbrev pub provided : Rows → List ℕ → List ℕ → Option (List ℕ × List ℕ)
provided m key0 text =
    option_and_then (λ row. first_found row (tries text)) (look_up by_bytes m key0)
