-- Lists of elements as one element.
use Rattle.std.specs.Prelude.{ℕ, List, is_some, true, if◌then◌else◌}
use Rattle.std.specs.Prelude.{Result, Ok, Err}
use Rattle.zv_var.specs.Serialize.{lengthless, lengthless_len, serialized, serialized_len}
use Rattle.zv_json.specs.declared.error.JsonError.{JsonError}
use Rattle.zv_json.specs.declared.error.JsonError.TheVariants.{TooLarge}

-- the encoding of a list, if it is not too large for the format. w is the width of a field in bytes
abbrev pub list_of_elements : ℕ → List (List ℕ) → Result (List ℕ) JsonError
list_of_elements w xs = if is_some (serialized_len (λ _. true) (λ x. x) w xs)
    then Ok (serialized w xs) else Err TooLarge

-- the record of fields, if it is not too large for the format
abbrev pub record_of_fields : ℕ → List (List ℕ) → Result (List ℕ) JsonError
record_of_fields w xs = if is_some (lengthless_len (λ _. true) (λ x. x) w xs)
    then Ok (lengthless w xs) else Err TooLarge
