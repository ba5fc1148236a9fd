-- Commands that lines are.
use Rattle.std.specs.Prelude.{◌≡◌, ℕ, ◌≤◌, List, [], ◌∷◌, ◌++◌, Bool, true, false, length}
use Rattle.std.specs.List.{AllByRecursion}
use Rattle.std.specs.declared.option.Option.TheVariants.{Some, None}
use Rattle.zv_input.specs.Commands.{OfTexts, total_size}
use Rattle.zv_input.specs.Input.{command_of_words, words}
use Rattle.zv_input.specs.Shapes.{commands_at, fields_size}
use Rattle.zv_input.specs.Sizes.{put_sizes}
use Rattle.zv_input.specs.declared.command.Command.{Command}
use Rattle.zv_input.specs.declared.shape.Shape.{Shape}
use Rattle.zv_input.specs.declared.sizes.PutSizes.{PutSizes}

-- The line's command was added, or the line is no command and nothing was.
abbrev pub AddsCommand : List Command → List ℕ → List Command → Bool → Type 0
AddsCommand cs line new true =
    (c : Command) × (command_of_words (words line) ≡ Some c) × (new ≡ cs ++ c ∷ [])
AddsCommand cs line new false = (command_of_words (words line) ≡ None) × (new ≡ cs)

-- The fields of commands of these shapes stand in the bytes before a place, their keys are texts,
-- they come to no more than a list's limit, and their puts have these sizes.
pub record AreKept (shapes : List Shape) (bytes : List ℕ) (place : ℕ) (puts : PutSizes) : Type 0
  where
    pub end : place ≡ fields_size shapes
    pub within : place ≤ length bytes
    pub limit : total_size (commands_at shapes bytes) ≤ 16777216
    pub sizes : puts ≡ put_sizes (commands_at shapes bytes)
    pub texts : AllByRecursion OfTexts (commands_at shapes bytes)
