-- Hash tables as JSON: arrays of their three vectors.
use Rattle.std.specs.Prelude.{ℕ, Bool, ◌∷◌, [], List, length, is_none, Option, Result, Ok, Err}
use Rattle.std.specs.Prelude.{if◌then◌else◌, map}
use Rattle.serde_json.specs.Data.{Data}
use Rattle.zv_hashmap.specs.Table.{parts_fault}
use Rattle.zv_json.specs.Arrays.{array_written, list_in, of_three}
use Rattle.zv_json.specs.Json.{and_then, items_in}
use Rattle.zv_json.specs.declared.error.JsonError.{JsonError}
use Rattle.zv_json.specs.declared.error.JsonError.TheVariants.{Shape, TooLarge}
use Rattle.zv_owned.specs.Size.{takes_pushes}

-- the array of what three vectors are written as
abbrev pub table_written : {A : Type 0} → (A → Option Data) → (List ℕ → Option Data) →
    (List ℕ → Option Data) → List A → List (List ℕ) → List (List ℕ) → Option Data
table_written displacement key value ds ks vs = array_written
    (array_written (map displacement ds) ∷ array_written (map key ks) ∷
    array_written (map value vs) ∷ [])

-- a list, if the container takes its elements one after another
abbrev pub pushed : (List (List ℕ) → ℕ → Bool) → List (List ℕ) → Result (List (List ℕ)) JsonError
pushed takes xs = if takes_pushes takes [] xs then Ok xs else Err TooLarge

-- the list of a container that a value is
abbrev pub container_in : (List (List ℕ) → ℕ → Bool) → (Data → Result (List ℕ) JsonError) → Data →
    Result (List (List ℕ)) JsonError
container_in takes read d = and_then (list_in read d) (pushed takes)

-- three lists, if they are those of a table
abbrev pub counted : {A : Type 0} → List A → List (List ℕ) → List (List ℕ) →
    Result (List A × List (List ℕ) × List (List ℕ)) JsonError
counted ds ks vs = if is_none (parts_fault (length ds) (length ks) (length vs))
    then Ok (ds, ks, vs) else Err Shape

-- the three lists that a value is
abbrev pub table_in : {A : Type 0} → (Data → Result (List A) JsonError) →
    (Data → Result (List (List ℕ)) JsonError) → (Data → Result (List (List ℕ)) JsonError) → Data →
    Result (List A × List (List ℕ) × List (List ℕ)) JsonError
table_in displacements keys values d = and_then (items_in d) (of_three (λ x y z.
    and_then (displacements x) (λ ds. and_then (keys y) (λ ks.
    and_then (values z) (λ vs. counted ds ks vs)))))
