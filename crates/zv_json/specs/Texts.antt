-- Texts of one character.
use Rattle.std.specs.Prelude.{ℕ, List, Option, Some, None, if◌then◌else◌, slice_get}
use Rattle.std.specs.Char.{encode_utf8}
use Rattle.std.specs.Option.{ok_or, option_and_then}
use Rattle.std.specs.Prelude.{Result}
use Rattle.std.specs.Str.{bytes_eq, chars}
use Rattle.serde_json.specs.Data.{Data}
use Rattle.serde_json.specs.Find.{as_bool, as_str}
use Rattle.std.specs.Prelude.{Bool}
use Rattle.zv_json.specs.Json.{and_then}
use Rattle.zv_json.specs.declared.error.JsonError.{JsonError}
use Rattle.zv_json.specs.declared.error.JsonError.TheVariants.{Range, Shape}

-- c, if the text is its bytes
abbrev pub alone : List ℕ → ℕ → Option ℕ
alone text c = if bytes_eq (encode_utf8 c) text then Some c else None

-- the one character of a text
abbrev pub char_key : List ℕ → Option ℕ
char_key text = option_and_then (alone text) (slice_get (chars text) 0)

-- the text of a value that is to be a string
abbrev pub text_in : Data → Result (List ℕ) JsonError
text_in d = ok_or (as_str d) Shape

-- the character that a value is
abbrev pub char_in : Data → Result ℕ JsonError
char_in d = and_then (text_in d) (λ text. ok_or (char_key text) Range)

-- the truth value that a value is
abbrev pub bool_in : Data → Result Bool JsonError
bool_in d = ok_or (as_bool d) Shape
