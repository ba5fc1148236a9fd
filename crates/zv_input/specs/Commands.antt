-- How large commands are, and whose keys are texts.
use Rattle.std.specs.Prelude.{◌≡◌, ℕ, ◌+◌, List, None, length, sum_by}
use Rattle.zv_ule.specs.Kinds.{text_fault}
use Rattle.zv_input.specs.declared.command.Command.{Command}
use Rattle.zv_input.specs.declared.command.Command.TheVariants.{Get, Put, Del, Row}

-- 1 and the lengths of a command's fields
abbrev pub command_size : Command → ℕ
command_size (Get key0 key1) = 1 + length key0 + length key1
command_size (Put key0 key1 value) = 1 + length key0 + length key1 + length value
command_size (Del key0 key1) = 1 + length key0 + length key1
command_size (Row key0) = 1 + length key0

-- the sizes of all commands together
abbrev pub total_size : List Command → ℕ
total_size cs = sum_by command_size cs

-- the keys of a command are texts
abbrev pub OfTexts : Command → Type 0
OfTexts (Get key0 key1) = (text_fault key0 ≡ None) × (text_fault key1 ≡ None)
OfTexts (Put key0 key1 value) = (text_fault key0 ≡ None) × (text_fault key1 ≡ None)
OfTexts (Del key0 key1) = (text_fault key0 ≡ None) × (text_fault key1 ≡ None)
OfTexts (Row key0) = text_fault key0 ≡ None
