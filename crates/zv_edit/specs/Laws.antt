-- The laws of commands, each the contract of a function.
use Rattle.std.specs.Prelude.{◌≡◌, ℕ, ◌-◌, ◌^◌, ◌<◌, ◌≤◌, ◌↔◌, List, [], length, IfOk}
use Rattle.std.specs.declared.result.Result.TheVariants.{Ok}
use Rattle.std.specs.List.{AllByRecursion}
use Rattle.zv_ule.specs.Bytes.{IsBytes}
use Rattle.zv_map2d.specs.Image.{IsTextMap, Stands, canon}
use Rattle.zv_map2d_laws.specs.Laws.{IsCodable}
use Rattle.zv_map2d.specs.Rows.{Rows}
use Rattle.zv_input.specs.Commands.{OfTexts}
use Rattle.zv_input.specs.declared.command.Command.{Command}
use Rattle.zv_command.specs.Inputs.{request_of}
use Rattle.zv_command.specs.declared.reader.TheConstants.{MAX_INPUT}
use Rattle.zv_edit.specs.Answers.{answers, last, replies}
use Rattle.zv_edit.specs.Output.{too_large}
use Rattle.zv_edit.specs.Requests.{with_command}
use Rattle.zv_image.specs.Text.{image_line}

-- the commands of an input have texts for keys
abbrev pub KeysAreTexts : Type 0
KeysAreTexts = (input : List ℕ) →
    IfOk (request_of with_command [] input) (λ parts. AllByRecursion OfTexts parts.1)

-- where an input is within the limit, has no bad line and an image of a map, no command is answered
-- that its value is too large
abbrev pub NeverTooLarge : Type 0
NeverTooLarge = (input image : List ℕ) (cs : List Command) (m : Rows) →
    length input ≤ MAX_INPUT → request_of with_command [] input ≡ Ok (image, cs) →
    Stands image m → AllByRecursion (λ r. r ≡ too_large → ⊥) (replies m cs)

-- where an image stands for a map, the canonical image of what commands leave of that map stands
-- for what they leave
abbrev pub LeftStands : Type 0
LeftStands = (image : List ℕ) (m : Rows) (cs : List Command) →
    Stands image m → AllByRecursion OfTexts cs → Stands (canon (last m cs)) (last m cs)

-- two images stand for one map exactly where an edit with no commands writes the same for both
abbrev pub SameEdits : Type 0
SameEdits = (image other : List ℕ) (m n : Rows) → IsBytes image → IsBytes other →
    length image < 2 ^ 63 → length other < 2 ^ 63 → Stands image m → Stands other n →
    (m ≡ n) ↔ (answers m [] ≡ answers n [])

-- a canonical image is written back as it is by an edit with no commands
abbrev pub WrittenBack : Type 0
WrittenBack = (m n : Rows) → IsTextMap m → IsCodable m → length (canon m) < 2 ^ 64 - 1 →
    Stands (canon m) n → answers n [] ≡ image_line (canon m)
