-- What the lines after an image ask for, and what is due to them.
use Rattle.std.specs.Prelude.{◌≡◌, ℕ, List, [], ◌∷◌, ◌++◌, IsTrue, bytes_eq, codes}
use Rattle.std.specs.Prelude.{if◌then◌else◌}
use Rattle.std.specs.List.{flat_map}
use Rattle.std.specs.Option.{option_map}
use Rattle.std.specs.declared.option.Option.{Option}
use Rattle.std.specs.declared.option.Option.TheVariants.{Some, None}
use Rattle.zv_input.specs.Digits.{◌>>=◌}
use Rattle.zv_input.specs.Input.{key, three_words, words}
use Rattle.zv_input.specs.declared.command.Command.{Command}
use Rattle.zv_input.specs.declared.command.Command.TheVariants.{Get, Put, Del, Row}
use Rattle.zv_command.specs.Due.{Due}
use Rattle.zv_command.specs.Text.{hex_field, line}
use Rattle.zv_image.specs.Due.{image_due}
use Rattle.zv_map2d.specs.Image.{Stands}
use Rattle.zv_map2d.specs.Rows.{Rows}
use Rattle.zv_locale.specs.Provided.{provided}
use Rattle.zv_locale.specs.Wanted.{is_wanted}

-- ---- lines

-- the wanted text that a field stands for
abbrev pub wanted_text : List ℕ → Option (List ℕ)
wanted_text word = do
  text ← key word
  if is_wanted text then Some text else None

-- what a key and a wanted text ask for: they are kept as a look-up
abbrev pub asked : List ℕ → List ℕ → Option Command
asked a b = do
  key0 ← key a
  text ← wanted_text b
  Some (Get key0 text)

-- what words ask for that are `ask`, a key and a wanted text
abbrev pub ask_of : List (List ℕ) → Option Command
ask_of words = do
  triple ← three_words words
  if bytes_eq triple.0 (codes "ask") then asked triple.1 triple.2 else None

-- each line asks
abbrev pub with_ask : List Command → List ℕ → Option (List Command)
with_ask asks line = option_map (λ ask. asks ++ ask ∷ []) (ask_of (words line))

-- it is a look-up of a wanted text
abbrev pub IsAsk : Command → Type 0
IsAsk (Get key0 text) = IsTrue (is_wanted text)
IsAsk (Put key0 key1 value) = ⊥
IsAsk (Del key0 key1) = ⊥
IsAsk (Row key0) = ⊥

-- ---- answers

-- what an ask is provided
abbrev pub answer_to : Rows → Command → Option (List ℕ × List ℕ)
answer_to m (Get key0 text) = provided m key0 text
answer_to m command = None

-- the line of a name that was found and its value, or of none
abbrev pub found_line : Option (List ℕ × List ℕ) → List ℕ
found_line None = line (codes "none")
found_line (Some found) =
    line ((codes "some " ++ hex_field found.0) ++ (codes " " ++ hex_field found.1))

-- the lines of what asks are provided
abbrev pub answers : Rows → List Command → List ℕ
answers m asks = flat_map (λ ask. found_line (answer_to m ask)) asks

-- a text that answers the asks on the map that the image stands for
abbrev pub IsAnswered : List ℕ → List Command → List ℕ → Type 0
IsAnswered image asks text = (m : Rows) × Stands image m × (text ≡ answers m asks)

-- the line of the image's fault, or the answers
abbrev pub locale_due : List ℕ → List Command → Due
locale_due image asks = image_due image (IsAnswered image asks)
