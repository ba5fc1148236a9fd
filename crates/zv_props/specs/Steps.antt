-- The lines that follow a table: code points that are asked, and ranges that are set.
use Rattle.std.specs.Prelude.{ℕ, ◌≤◌, nat_le, List, [], ◌∷◌, codes, bytes_eq, if◌then◌else◌}
use Rattle.std.specs.declared.option.Option.{Option}
use Rattle.std.specs.declared.option.Option.TheVariants.{Some, None}
use Rattle.zv_input.specs.Digits.{◌>>=◌}
use Rattle.zv_input.specs.Input.{one_word, three_words}
use Rattle.zv_input.specs.Numbers.{number}
use Rattle.zv_props.specs.Tables.{max_code_point}
use Rattle.zv_props.specs.declared.step.Step.{Step}
use Rattle.zv_props.specs.declared.step.Step.TheVariants.{At, Set}

-- a code point that is asked: what stands after `at`
abbrev pub at : List (List ℕ) → Option Step
at fields = do
  word ← one_word fields
  c ← number max_code_point word
  Some (At c)

-- the range of these ends and a value
abbrev pub range_of : ℕ → ℕ → ℕ → Option Step
range_of first last value = if nat_le first last then Some (Set first last value) else None

-- a range and its value: what stands after `set`
abbrev pub set : List (List ℕ) → Option Step
set fields = do
  words ← three_words fields
  first ← number max_code_point words.0
  last ← number max_code_point words.1
  value ← number 65535 words.2
  range_of first last value

-- the step that the words of a line are: `at N` or `set N N N`
abbrev pub step_of : List (List ℕ) → Option Step
step_of [] = None
step_of (name ∷ fields) =
    if bytes_eq name (codes "at") then at fields
    else if bytes_eq name (codes "set") then set fields
    else None

-- what is asked or set lies among the code points
abbrev pub IsStep : Step → Type 0
IsStep (At c) = c ≤ max_code_point
IsStep (Set first last value) = (first ≤ last) × (last ≤ max_code_point)

-- a step, where no words follow it
abbrev pub if_end : Option Step → List (List ℕ) → Option Step
if_end step [] = step
if_end step (word ∷ rest) = None
