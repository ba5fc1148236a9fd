-- What calls answer that read and write JSON.
use Rattle.std.specs.Prelude.{◌≡◌, ◌⊎◌, List, [], ◌∷◌, Option}
use Rattle.std.specs.Option.{ok_or, option_map}
use Rattle.std.specs.Prelude.{Result, Ok, Err}
use Rattle.serde_json.specs.Data.{Data, Items, no_items, item, array}
use Rattle.serde_json.specs.Find.{as_array}
use Rattle.serde_json.specs.View.{items_of}
use Rattle.zv_json.specs.declared.error.JsonError.{JsonError}
use Rattle.zv_json.specs.declared.error.JsonError.TheVariants.{Memory, Shape, Wide}

-- a call answers as `says` does, its answer standing for what `shows` makes of it, unless memory is
-- refused
abbrev pub UnlessMemory : {A B : Type 0} → (A → B) → Result B JsonError → Result A JsonError →
    Type 0
UnlessMemory shows says (Ok a) = says ≡ Ok (shows a)
UnlessMemory shows says (Err e) = (e ≡ Memory) ⊎ (says ≡ Err e)

-- what is written, or that a number is too wide
abbrev pub or_wide : {A : Type 0} → Option A → Result A JsonError
or_wide written = ok_or written Wide

-- what f makes of an answer, or its fault
abbrev pub and_then : {A B : Type 0} → Result A JsonError → (A → Result B JsonError) →
    Result B JsonError
and_then (Ok a) f = f a
and_then (Err e) f = Err e

-- the items of an array, one after another
abbrev pub list_of : Items → List Data
list_of no_items = []
list_of (item d ds) = d ∷ list_of ds

-- the array of these items
abbrev pub array_of : List Data → Data
array_of ds = array (items_of ds)

-- the items of a value that is to be an array
abbrev pub items_in : Data → Result (List Data) JsonError
items_in d = ok_or (option_map list_of (as_array d)) Shape
