-- Arrays of what several values are.
use Rattle.std.specs.Prelude.{ℕ, List, [], ◌∷◌, ◌++◌, length, ◌==◌, Option, Some}
use Rattle.std.specs.Prelude.{if◌then◌else◌}
use Rattle.std.specs.Option.{option_and_then, option_map}
use Rattle.std.specs.Prelude.{Result, Ok, Err}
use Rattle.serde_json.specs.Data.{Data}
use Rattle.zv_json.specs.Json.{and_then, array_of, items_in}
use Rattle.zv_json.specs.declared.error.JsonError.{JsonError}
use Rattle.zv_json.specs.declared.error.JsonError.TheVariants.{Shape}

-- all of them, if there is none that is nothing
abbrev pub all_written : List (Option Data) → Option (List Data)
all_written [] = Some []
all_written (d ∷ ds) = option_and_then (λ x. option_map (λ xs. x ∷ xs) (all_written ds)) d

-- the array of all of them
abbrev pub array_written : List (Option Data) → Option Data
array_written ds = option_map array_of (all_written ds)

-- what a reader makes of each, or the first fault
abbrev pub read_each : {A : Type 0} → (Data → Result A JsonError) → List Data →
    Result (List A) JsonError
read_each read [] = Ok []
read_each read (d ∷ ds) = and_then (read d) (λ x. and_then (read_each read ds) (λ xs. Ok (x ∷ xs)))

-- what was written, and then the rest
abbrev pub then_written : {A : Type 0} → List A → Option (List A) → Option (List A)
then_written done rest = option_map (λ xs. done ++ xs) rest

-- what was read, and then the rest
abbrev pub then_read : {A : Type 0} → List A → Result (List A) JsonError → Result (List A) JsonError
then_read done rest = and_then rest (λ xs. Ok (done ++ xs))

-- what a reader makes of each item of an array
abbrev pub list_in : {A : Type 0} → (Data → Result A JsonError) → Data → Result (List A) JsonError
list_in read d = and_then (items_in d) (read_each read)

-- and of an array of n items
abbrev pub array_in : {A : Type 0} → (Data → Result A JsonError) → ℕ → Data →
    Result (List A) JsonError
array_in read n d =
    and_then (items_in d) (λ ds. if length ds == n then read_each read ds else Err Shape)

-- what a reader makes of exactly so many items
module _ {A : Type 0} where
  abbrev pub of_two : (Data → Data → Result A JsonError) → List Data → Result A JsonError
  of_two read (a ∷ b ∷ []) = read a b
  of_two read _ = Err Shape

  abbrev pub of_three : (Data → Data → Data → Result A JsonError) → List Data → Result A JsonError
  of_three read (a ∷ b ∷ c ∷ []) = read a b c
  of_three read _ = Err Shape

  abbrev pub of_four : (Data → Data → Data → Data → Result A JsonError) → List Data →
      Result A JsonError
  of_four read (a ∷ b ∷ c ∷ d ∷ []) = read a b c d
  of_four read _ = Err Shape

  abbrev pub of_five : (Data → Data → Data → Data → Data → Result A JsonError) → List Data →
      Result A JsonError
  of_five read (a ∷ b ∷ c ∷ d ∷ e ∷ []) = read a b c d e
  of_five read _ = Err Shape

  abbrev pub of_six : (Data → Data → Data → Data → Data → Data → Result A JsonError) →
      List Data → Result A JsonError
  of_six read (a ∷ b ∷ c ∷ d ∷ e ∷ f ∷ []) = read a b c d e f
  of_six read _ = Err Shape
