-- The lines that follow a table.
use Rattle.zv_props.proofs.Common.{◌≡◌, ℕ, List, None, Some, Option, arith, max_code_point}
use Rattle.std.proofs.lemmas.List.Splits.{length-slice_split}
use Rattle.memchr.specs.Find.{is_byte}
use Rattle.zv_input.specs.Digits.{◌>>=◌}
use Rattle.zv_input.specs.Input.{words}
use Rattle.zv_input.specs.Numbers.{number}
use Rattle.zv_input.specs.Words.{first_of}
use Rattle.zv_props.specs.Steps.{at, if_end, range_of, set}
use Rattle.zv_props.specs.declared.step.Step.{Step}
use Rattle.zv_props.specs.declared.step.Step.TheVariants.{At}

-- no step stands before other words
pub not_end : (step : Option Step) (text : List ℕ) → if_end step (words text) ≡ None
not_end step text = let some = length-slice_split (is_byte 32) text in grind arith

pub at_by_number : (ws : List (List ℕ)) → at ws ≡ (first_of (number max_code_point) ws >>= (λ c. if_end (Some (At c.0)) c.1))
at_by_number ws = grind arith

pub set_by_numbers : (ws : List (List ℕ)) → set ws ≡ (first_of (number max_code_point) ws
    >>= (λ a. first_of (number max_code_point) a.1 >>= (λ b. first_of (number 65535) b.1 >>= (λ v. if_end (range_of a.0 b.0 v.0) v.1))))
set_by_numbers ws = grind arith
