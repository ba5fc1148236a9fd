-- What an input asks: the bytes of its first line, and what its further lines make of a request.
use Rattle.std.specs.Prelude.{◌≡◌, ℕ, ◌+◌, List, [], ◌∷◌, Bool, true, false, Result}
use Rattle.std.specs.declared.option.Option.{Option}
use Rattle.std.specs.declared.option.Option.TheVariants.{Some, None}
use Rattle.std.specs.declared.result.Result.TheVariants.{Ok, Err}
use Rattle.zv_input.specs.Input.{field, lines}
use Rattle.zv_command.specs.Due.{Due, bad_line_due}

-- A line was added as it says, or it is bad and nothing is said.
abbrev pub AddsLine : {A : Type 0} → Option A → A → Bool → Type 0
AddsLine added new true = added ≡ Some new
AddsLine added new false = added ≡ None

-- no line follows the first
abbrev pub with_no_line : {A : Type 0} → A → List ℕ → Option A
with_no_line a line = None

-- what the rest makes of what line n made, or its number where it is bad
abbrev pub line_and : {A : Type 0} → ℕ → Option A → (A → Result A ℕ) → Result A ℕ
line_and n None rest = Err n
line_and n (Some b) rest = rest b

-- what lines make of a request, n lines being before them, or the number of the first bad one
abbrev pub with_lines : {A : Type 0} → (A → List ℕ → Option A) → ℕ → A → List (List ℕ)
    → Result A ℕ
with_lines with_line n a [] = Ok a
with_lines with_line n a (line ∷ rest) =
    line_and (n + 1) (with_line a line) (λ b. with_lines with_line (n + 1) b rest)

-- the bytes that line 1 stands for beside the request, or the number of the first bad line
abbrev pub first_and : {A : Type 0} → Option (List ℕ) → Result A ℕ → Result (List ℕ × A) ℕ
first_and None rest = Err 1
first_and (Some bytes) (Ok a) = Ok (bytes, a)
first_and (Some bytes) (Err n) = Err n

-- what all lines of an input make of a request: line 1 is a field, and no line is a bad line 1
abbrev pub with_all : {A : Type 0} → (A → List ℕ → Option A) → A → List (List ℕ)
    → Result (List ℕ × A) ℕ
with_all with_line a [] = Err 1
with_all with_line a (first ∷ rest) = first_and (field first) (with_lines with_line 1 a rest)

-- what an input asks, or the number of its first bad line, from 1
unfoldable pub request_of : {A : Type 0} → (A → List ℕ → Option A) → A → List ℕ
    → Result (List ℕ × A) ℕ
request_of with_line a input = with_all with_line a (lines input)

-- what is due to what is asked, or to the first bad line
abbrev pub due_or : {A : Type 0} → (List ℕ → A → Due) → Result (List ℕ × A) ℕ → Due
due_or due (Ok parts) = due parts.0 parts.1
due_or due (Err number) = bad_line_due number

-- what is due to an input
abbrev pub input_due : {A : Type 0} → (A → List ℕ → Option A) → (List ℕ → A → Due) → A → List ℕ
    → Due
input_due with_line due a input = due_or due (request_of with_line a input)
