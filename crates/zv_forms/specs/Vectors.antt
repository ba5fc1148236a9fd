-- Lists that are read.
use Rattle.std.specs.Prelude.{ℕ, ◌||◌, ◌==◌, List, length, is_some, true, if◌then◌else◌, Result}
use Rattle.std.specs.Prelude.{Ok, Err}
use Rattle.zv_json.specs.declared.error.JsonError.{JsonError}
use Rattle.zv_json.specs.declared.error.JsonError.TheVariants.{TooLarge}
use Rattle.zv_var.specs.Serialize.{serialized_len}

-- a list, if the format can hold it; w is the width of a field in bytes
abbrev pub list_taken : ℕ → List (List ℕ) → Result (List (List ℕ)) JsonError
list_taken w xs = if length xs == 0 || is_some (serialized_len (λ _. true) (λ x. x) w xs)
    then Ok xs else Err TooLarge
