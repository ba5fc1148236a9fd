-- What is due to a table and the lines that follow it.
use Rattle.std.specs.Prelude.{◌≡◌, ℕ, List, [], ◌∷◌, ◌++◌, codes}
use Rattle.std.specs.Fmt.{decimal}
use Rattle.std.specs.Option.{option_map}
use Rattle.std.specs.declared.option.Option.{Option}
use Rattle.std.specs.declared.option.Option.TheVariants.{Some, None}
use Rattle.zv_input.specs.Input.{words}
use Rattle.zv_command.specs.Due.{Due, text_due}
use Rattle.zv_command.specs.Text.{hex_field, line}
use Rattle.zv_command.specs.declared.status.Status.TheVariants.{BadImage, Done}
use Rattle.zv_props.specs.Faults.{table_fault}
use Rattle.zv_props.specs.Steps.{step_of}
use Rattle.zv_props.specs.Stored.{rows_of, table_bytes}
use Rattle.zv_props.specs.Tables.{AnswerAlike, IsProper, Row, value_at}
use Rattle.zv_props.specs.declared.error.PropsError.{PropsError}
use Rattle.zv_props.specs.declared.error.PropsError.TheVariants.{Join, Order, Row as BadRow, Ule}
use Rattle.zv_props.specs.declared.step.Step.{Step}
use Rattle.zv_props.specs.declared.step.Step.TheVariants.{At, Set}

-- each line is a step
abbrev pub with_step : List Step → List ℕ → Option (List Step)
with_step steps line = option_map (λ s. steps ++ s ∷ []) (step_of (words line))

-- the line that a step is answered with, by the rows that answer before it
abbrev pub reply : List Row → Step → List ℕ
reply rows (At c) = line (codes "value " ++ decimal (value_at rows c))
reply rows (Set first last value) = line (codes "ok")

-- the rows that answer after a step: a range lies on top of those before it
abbrev pub after_step : List Row → Step → List Row
after_step rows (At c) = rows
after_step rows (Set first last value) = (first, last, value) ∷ rows

-- the replies to steps, each after those before it
abbrev pub replies : List Row → List Step → List ℕ
replies rows [] = []
replies rows (step ∷ steps) = reply rows step ++ replies (after_step rows step) steps

-- the rows that answer after all steps
abbrev pub after_all : List Row → List Step → List Row
after_all rows [] = rows
after_all rows (step ∷ steps) = after_all (after_step rows step) steps

-- the line of a table
abbrev pub table_line : List Row → List ℕ
table_line rows = line (codes "table " ++ hex_field (table_bytes rows))

-- a text that answers these steps: the replies, and the one proper table that all steps leave
pub record IsAnswer (rows : List Row) (steps : List Step) (text : List ℕ) : Type 0 where
  pub table : List Row
  pub proper : IsProper table
  pub alike : AnswerAlike table (after_all rows steps)
  pub is : text ≡ replies rows steps ++ table_line table

-- the line of bytes that are no table
abbrev pub fault_line : PropsError → List ℕ
fault_line (Ule e) = line (codes "error length")
fault_line (BadRow place) = line (codes "error row " ++ decimal place)
fault_line (Order place) = line (codes "error order " ++ decimal place)
fault_line (Join place) = line (codes "error join " ++ decimal place)

abbrev pub fault_due : Option PropsError → (List ℕ → Type 0) → Due
fault_due None Answer = record { Text = Answer; status = Done }
fault_due (Some e) Answer = text_due (fault_line e) BadImage

-- the line of the bytes' first fault, or the texts that answer the steps
unfoldable pub props_due : List ℕ → List Step → Due
props_due bytes steps = fault_due (table_fault bytes) (IsAnswer (rows_of bytes) steps)
