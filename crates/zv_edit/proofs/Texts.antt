-- The keys of the commands of an input are texts.
use Rattle.zv_edit.proofs.Common.{arith, ℕ, ◌+◌, List, [], ◌∷◌, ◌++◌, Command, OfTexts, AllByRecursion, KeysAreTexts, with_command}
use Rattle.std.specs.Prelude.{IfOk}
use Rattle.zv_ule.proofs.Lists.{all_append}
use Rattle.zv_input.proofs.Fields.{line_command}
use Rattle.zv_input.specs.Input.{lines}
use Rattle.zv_command.specs.Inputs.{request_of, with_all, with_lines}

lines_texts : (n : ℕ) (cs : List Command) (ls : List (List ℕ)) → AllByRecursion OfTexts cs → IfOk (with_lines with_command n cs ls) (AllByRecursion OfTexts)
lines_texts n cs [] texts = texts
lines_texts n cs (line ∷ rest) texts =
    let one = line_command line in
    let more = λ (c : Command) (is : OfTexts c). lines_texts (n + 1) (cs ++ c ∷ []) rest (all_append OfTexts cs c texts is) in
    grind arith

by_lines : (ls : List (List ℕ)) → IfOk (with_all with_command [] ls) (λ parts. AllByRecursion OfTexts parts.1)
by_lines [] = tt
by_lines (first ∷ rest) = let all = lines_texts 1 [] rest tt in grind arith

pub keys_are_texts : KeysAreTexts
unfolding request_of
keys_are_texts input = by_lines (lines input)
