-- The map that commands leave of none.
use Rattle.std.proofs.Common.{◌≡◌, ℕ, ◌-◌, ◌^◌, ◌<◌, List, [], None, refl, ap, ◌∙◌, arith}
use Rattle.std.specs.List.{AllByRecursion}
use Rattle.std.specs.Prelude.{length}
unfoldable use Rattle.std.specs.List.Sorted.{IsStrictlySortedBy}
use Rattle.zv_map2d.specs.Image.{Stands, canon, fault}
use Rattle.zv_map2d.specs.Rows.{Rows}
use Rattle.zv_map2d_laws.proofs.Standing.{canon_stands, none_from_stands, one_map}
use Rattle.zv_input.specs.Commands.{OfTexts}
use Rattle.zv_input.specs.declared.command.Command.{Command}
use Rattle.zv_edit.proofs.Left.{left_stands}
use Rattle.zv_edit.specs.Answers.{IsAnswer, answers, last}

none_stands : Stands (canon []) []
unfolding IsStrictlySortedBy
none_stands =
    canon_stands [] (record { in_order = (tt, tt); texts0 = tt; texts1 = tt }) (record { keys0 = refl; keys1 = refl; values = refl })

-- what answers commands on the image of no pairs
pub answered : (text : List ℕ) (cs : List Command) → IsAnswer (canon []) cs text → text ≡ answers [] cs
answered text cs a = a.2 ∙ ap (λ m. answers m cs) (one_map (canon []) a.0 [] (omega arith) a.1 none_stands)

-- the image of what they leave has no fault, and stands for nothing else
pub made_reads : (cs : List Command) → AllByRecursion OfTexts cs → length (canon (last [] cs)) < 2 ^ 64 - 1
    → (fault (canon (last [] cs)) ≡ None) × ((m : Rows) → Stands (canon (last [] cs)) m → m ≡ last [] cs)
made_reads cs keys short =
    let s = left_stands (canon []) [] cs none_stands keys in
    (none_from_stands (canon (last [] cs)) (last [] cs) short s, λ m t. one_map (canon (last [] cs)) m (last [] cs) short t s)
