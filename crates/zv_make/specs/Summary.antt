-- What is told of a made table.
use Rattle.std.specs.Prelude.{ℕ, List, [], ◌++◌, codes, length, sum}
use Rattle.std.specs.Fmt.{decimal}
use Rattle.zv_map2d.specs.Image.{canon}
use Rattle.zv_map2d.specs.Rows.{Rows, seconds}
use Rattle.zv_command.specs.Due.{Due, text_due}
use Rattle.zv_command.specs.Text.{line}
use Rattle.zv_command.specs.declared.status.Status.TheVariants.{Done}
use Rattle.zv_edit.specs.Answers.{last}
use Rattle.zv_make.specs.Puts.{puts}

-- the table that the first n puts make of none
abbrev pub made : ℕ → Rows
made n = last [] (puts n)

-- the line of how many rows and pairs a map has, and how many bytes its canonical image and which
-- sum
abbrev pub summary_of : Rows → List ℕ
summary_of m = line (codes "rows " ++ decimal (length m)
    ++ codes " pairs " ++ decimal (length (seconds m))
    ++ codes " bytes " ++ decimal (length (canon m)) ++ codes " sum " ++ decimal (sum (canon m)))

-- what is due to `make n`
abbrev pub make_due : ℕ → Due
make_due n = text_due (summary_of (made n)) Done
