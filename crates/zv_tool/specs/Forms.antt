-- The forms of a command line, and what each wants.
use Rattle.std.specs.Prelude.{ℕ, Bool, false, List, [], ◌∷◌, bytes_eq, codes, if◌then◌else◌, ◌||◌}
use Rattle.std.specs.Option.{option_map, option_or}
use Rattle.std.specs.declared.option.Option.{Option}
use Rattle.std.specs.declared.option.Option.TheVariants.{Some, None}
use Rattle.zv_input.specs.Digits.{◌>>=◌}
use Rattle.zv_input.specs.Input.{key, three_words, two_words}
use Rattle.zv_input.specs.Numbers.{number}
use Rattle.zv_command.specs.Due.{text_due}
use Rattle.zv_command.specs.Inputs.{input_due, with_no_line}
use Rattle.zv_command.specs.Runs.{Wanted, at_once, of_input, reads_input}
use Rattle.zv_command.specs.Text.{line}
use Rattle.zv_command.specs.declared.status.Status.TheVariants.{Usage}
use Rattle.zv_edit.specs.Requests.{edit_due, look_due, with_command}
use Rattle.zv_frozen.specs.Requests.{ask_due, freeze_due, thaw_due}
use Rattle.zv_layers.specs.Requests.{layers_due, with_layer}
use Rattle.zv_locale.specs.Asks.{locale_due, with_ask}
use Rattle.zv_make.specs.Summary.{make_due}
use Rattle.zv_make.specs.declared.puts.TheConstants.{MAX_PUTS}
use Rattle.zv_props.specs.Requests.{props_due, with_step}
use Rattle.zv_tool.specs.declared.form.Form.{Form}
use Rattle.zv_tool.specs.declared.form.Form.TheVariants.{Ask, Edit, Freeze, Layers, Locale}
use Rattle.zv_tool.specs.declared.form.Form.TheVariants.{Look, Make, Props, Thaw}

-- ---- the words of a form

-- whether the words are this one
abbrev pub is_word : List ℕ → List (List ℕ) → Bool
is_word name (word ∷ []) = bytes_eq word name
is_word name words = false

-- the keys that two words are
abbrev pub two_keys : List ℕ → List ℕ → Option (List ℕ × List ℕ)
two_keys a b = do
  key0 ← key a
  key1 ← key b
  Some (key0, key1)

-- the look-up of two keys, in an image and in a frozen one
abbrev pub look_for : List ℕ × List ℕ → Form
look_for keys = Look (record { key0 = keys.0; key1 = keys.1 })

abbrev pub ask_for : List ℕ × List ℕ → Form
ask_for keys = Ask (record { key0 = keys.0; key1 = keys.1 })

-- the form of words that are `look` or `ask` and two keys
abbrev pub keyed_of : List (List ℕ) → Option Form
keyed_of words = do
  triple ← three_words words
  if bytes_eq triple.0 (codes "look") then option_map look_for (two_keys triple.1 triple.2)
      else if bytes_eq triple.0 (codes "ask") then option_map ask_for (two_keys triple.1 triple.2)
      else None

-- the form of words that are `make` and a number of puts
abbrev pub make_of : List (List ℕ) → Option Form
make_of words = do
  pair ← two_words words
  if bytes_eq pair.0 (codes "make") then option_map Make (number MAX_PUTS pair.1) else None

-- the form that the words are: `edit`, `layers`, `props`, `locale`, `freeze` or `thaw`, `make` and
-- a number, or `look` or `ask` and two keys
abbrev pub form_of : List (List ℕ) → Option Form
form_of words =
    if is_word (codes "edit") words then Some Edit
    else if is_word (codes "layers") words then Some Layers
    else if is_word (codes "props") words then Some Props
    else if is_word (codes "locale") words then Some Locale
    else if is_word (codes "freeze") words then Some Freeze
    else if is_word (codes "thaw") words then Some Thaw
    else option_or (make_of words) (keyed_of words)

-- whether the first word names a form
abbrev pub names_form : List (List ℕ) → Bool
names_form [] = false
names_form (word ∷ rest) =
    bytes_eq word (codes "edit") || bytes_eq word (codes "look") || bytes_eq word (codes "props")
    || bytes_eq word (codes "layers") || bytes_eq word (codes "locale")
    || bytes_eq word (codes "make") || bytes_eq word (codes "freeze")
    || bytes_eq word (codes "thaw") || bytes_eq word (codes "ask")

-- ---- what is wanted

-- by a form
abbrev pub wanted_of : Form → Wanted
wanted_of Edit = of_input (input_due with_command edit_due [])
wanted_of (Look look) = of_input (input_due with_no_line look_due look)
wanted_of Layers = of_input (input_due with_layer layers_due [])
wanted_of Locale = of_input (input_due with_ask locale_due [])
wanted_of Props = of_input (input_due with_step props_due [])
wanted_of (Make count) = at_once (make_due count)
wanted_of Freeze = of_input (input_due with_no_line freeze_due tt)
wanted_of (Ask ask) = of_input (input_due with_no_line ask_due ask)
wanted_of Thaw = of_input (input_due with_no_line thaw_due tt)

-- by words: the usage line where they are no form
abbrev pub wanted_or_usage : Option Form → Wanted
wanted_or_usage None = at_once (text_due (line (codes "usage: zv COMMAND")) Usage)
wanted_or_usage (Some form) = wanted_of form

abbrev pub wanted : List (List ℕ) → Wanted
wanted words = wanted_or_usage (form_of words)

-- whether words want the input to be read
abbrev pub is_read : List (List ℕ) → Bool
is_read words = reads_input (wanted words)
