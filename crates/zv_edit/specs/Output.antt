-- The lines of replies.
use Rattle.std.specs.Prelude.{ℕ, List, ◌++◌, codes}
use Rattle.std.specs.List.{flat_map}
use Rattle.std.specs.Option.{option_map_or}
use Rattle.std.specs.declared.option.Option.{Option}
use Rattle.zv_command.specs.Text.{hex_field, line}

-- what a command answers: a value that was found, that there is none, that a pair is new, a value
-- that is no longer there, that a value does not fit, or the pairs of a row
pub data Reply : Type 0 where
  some : List ℕ → Reply
  missing : Reply
  added : Reply
  old : List ℕ → Reply
  too_large : Reply
  pairs : List (List ℕ × List ℕ) → Reply

-- a pair in its row's line: each field after a space
abbrev pub pair_text : List ℕ × List ℕ → List ℕ
pair_text pair = (codes " " ++ hex_field pair.0) ++ (codes " " ++ hex_field pair.1)

-- a reply's line
abbrev pub text : Reply → List ℕ
text (some value) = line (codes "some " ++ hex_field value)
text missing = line (codes "none")
text added = line (codes "new")
text (old value) = line (codes "old " ++ hex_field value)
text too_large = line (codes "toolarge")
text (pairs ps) = line (codes "row" ++ flat_map pair_text ps)

-- the line of a value that was looked up, or of none
abbrev pub found_line : Option (List ℕ) → List ℕ
found_line value = text (option_map_or some value missing)
