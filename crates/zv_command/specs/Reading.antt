-- An input that comes piece by piece.
use Rattle.std.specs.Prelude.{◌≡◌, ℕ, ◌+◌, Bool, true, false, if◌then◌else◌, List, ◌++◌, length}
use Rattle.std.specs.Prelude.{Result, Vec}
use Rattle.std.specs.declared.alloc.Global.{Global}
use Rattle.std.specs.declared.option.Option.{Option}
use Rattle.std.specs.declared.option.Option.TheVariants.{Some, None}
use Rattle.std.specs.declared.result.Result.TheVariants.{Ok, Err}
use Rattle.zv_input.specs.Input.{lines}
use Rattle.zv_command.specs.Inputs.{first_and, with_all, with_lines}
use Rattle.zv_command.specs.declared.reader.Progress.{Progress}
use Rattle.zv_command.specs.declared.reader.ReadError.{ReadError}
use Rattle.zv_command.specs.declared.reader.ReadError.TheVariants.{BadLine}
use Rattle.zv_command.specs.declared.reader.Reader.{Reader}

-- what further lines make of it, n lines being before them, the first of which may be to come
abbrev pub with_further : {A : Type 0} → (A → List ℕ → Option A) → Option (Vec ℕ Global) → ℕ → A
    → List (List ℕ) → Result (List ℕ × A) ℕ
with_further with_line None n a rest = with_all with_line a rest
with_further with_line (Some first) n a rest =
    first_and (Some first.items) (with_lines with_line n a rest)

-- what an input comes to, by what its lines so far made and by the lines after them
unfoldable pub outcome_of : {A : Type 0} → (A → List ℕ → Option A) → Progress A → List (List ℕ)
    → Result (List ℕ × A) ℕ
outcome_of with_line p rest =
    if p.bad then Err p.count else with_further with_line p.first p.count p.request rest

-- the same, by a reader of its bytes so far and by the bytes after them
abbrev pub outcome_with : {A : Type 0} → (A → List ℕ → Option A) → Reader A → List ℕ
    → Result (List ℕ × A) ℕ
outcome_with with_line r rest = outcome_of with_line r.progress (lines (r.tail.items ++ rest))

-- how large what came is: the request, and 1 for each line
abbrev pub size_of : {A : Type 0} → (A → ℕ) → Progress A → ℕ
size_of size p = size p.request + p.count

-- the same with the bytes that are kept
abbrev pub kept_size : {A : Type 0} → (A → ℕ) → Reader A → ℕ
kept_size size r = size_of size r.progress + length r.tail.items

-- whether an input was read to its end: it is what was asked, or its first bad line
abbrev pub is_read : {A : Type 0} → Result A ReadError → Bool
is_read (Ok a) = true
is_read (Err (BadLine number)) = true
is_read (Err error) = false

-- What was read is what was asked, or the error names the first bad line; of the other errors
-- nothing is said.
abbrev pub IsReadAs : {A : Type 0} → Result (Vec ℕ Global × A) ReadError
    → Result (List ℕ × A) ℕ → Type 0
IsReadAs (Ok parts) asked = asked ≡ Ok (parts.0.items, parts.1)
IsReadAs (Err (BadLine number)) asked = asked ≡ Err number
IsReadAs (Err error) asked = Unit {0}
