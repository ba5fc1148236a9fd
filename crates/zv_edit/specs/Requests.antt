-- What the further lines of an input ask, and what is due to it.
use Rattle.std.specs.Prelude.{◌≡◌, ℕ, List, [], ◌∷◌, ◌++◌}
use Rattle.std.specs.Option.{option_map}
use Rattle.std.specs.declared.option.Option.{Option}
use Rattle.zv_map2d.specs.Image.{Stands}
use Rattle.zv_map2d.specs.Rows.{Rows}
use Rattle.zv_input.specs.Input.{command_of_words, words}
use Rattle.zv_input.specs.declared.command.Command.{Command}
use Rattle.zv_input.specs.declared.command.Command.TheVariants.{Get}
use Rattle.zv_command.specs.Due.{Due}
use Rattle.zv_image.specs.Due.{image_due}
use Rattle.zv_edit.specs.Answers.{IsAnswer, reply}
use Rattle.zv_edit.specs.Output.{text}
use Rattle.zv_edit.specs.declared.look.Look.{Look}

-- ---- edit: each line is a command

abbrev pub with_command : List Command → List ℕ → Option (List Command)
with_command cs line = option_map (λ c. cs ++ c ∷ []) (command_of_words (words line))

-- the line of the image's fault, or the replies and the image that is left
abbrev pub edit_due : List ℕ → List Command → Due
edit_due image cs = image_due image (IsAnswer image cs)

-- ---- look: no line follows the image

-- The line of what the pair of keys has in the map that the image stands for.
abbrev pub IsLooked : List ℕ → Look → List ℕ → Type 0
IsLooked image look line =
    (m : Rows) × Stands image m × (line ≡ text (reply m (Get look.key0 look.key1)))

-- the line of the image's fault, or that of the look-up
abbrev pub look_due : List ℕ → Look → Due
look_due image look = image_due image (IsLooked image look)
