-- Records, and values with an element behind them, as JSON.
use Rattle.std.specs.Prelude.{ℕ, List, [], ◌∷◌, ◌&&◌, length, ◌==◌, Option}
use Rattle.std.specs.Prelude.{Result, Ok, Err, codes, if◌then◌else◌}
use Rattle.std.specs.Option.{ok_or, option_and_then, option_map}
use Rattle.std.specs.Str.{bytes_eq}
use Rattle.serde_json.specs.Data.{Data, Members, member, no_members, object}
use Rattle.serde_json.specs.Find.{as_object}
use Rattle.zv_json.specs.Json.{and_then}
use Rattle.zv_json.specs.declared.error.JsonError.{JsonError}
use Rattle.zv_json.specs.declared.error.JsonError.TheVariants.{Shape}

-- the object of a value and the element behind it
abbrev pub parts_written : Option Data → Option Data → Option Data
parts_written sized variable = option_and_then (λ a. option_map (λ b. object
    (member (codes "sized") a (member (codes "variable") b no_members))) variable) sized

-- the values of exactly these two members
abbrev pub two_members : Members → Result (Data × Data) JsonError
two_members (member k a (member l b no_members)) =
    if bytes_eq k (codes "sized") && bytes_eq l (codes "variable") then Ok (a, b) else Err Shape
two_members _ = Err Shape

-- the values of the two members of an object
abbrev pub parts_in : Data → Result (Data × Data) JsonError
parts_in d = and_then (ok_or (as_object d) Shape) two_members

-- what a reader makes of the first item, and another of those behind it
abbrev pub read_field : (Data → Result (List ℕ) JsonError) →
    (List Data → Result (List (List ℕ)) JsonError) → List Data →
    Result (List (List ℕ)) JsonError
read_field first behind [] = Ok []
read_field first behind (d ∷ ds) =
    and_then (first d) (λ x. and_then (behind ds) (λ xs. Ok (x ∷ xs)))

-- what a reader makes of n items
abbrev pub fields_in : ℕ → (List Data → Result (List (List ℕ)) JsonError) → List Data →
    Result (List (List ℕ)) JsonError
fields_in n read ds = if length ds == n then read ds else Err Shape
