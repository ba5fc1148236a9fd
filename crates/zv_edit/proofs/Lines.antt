-- What an input asks is no larger than it is, where no line adds more than its length.
use Rattle.zv_edit.proofs.Common.{◌≡◌, ℕ, ◌+◌, ◌≤◌, arith, List, [], ◌∷◌, length, subst, Result, Ok, Option}
use Rattle.std.proofs.lemmas.List.Sums.{sum_by-cons}
use Rattle.std.specs.List.{slice_split}
use Rattle.std.specs.Prelude.{IfOk, IfSome, sum_by}
use Rattle.zv_input.proofs.Common.{is_byte}
use Rattle.zv_input.proofs.Fields.{field_is, pieces_size}
use Rattle.zv_input.specs.Input.{lines, without_empty_last}
use Rattle.zv_command.specs.Inputs.{request_of, with_all, with_lines}

without_last : (ps : List (List ℕ)) → sum_by length (without_empty_last ps) ≤ sum_by length ps
without_last [] = omega arith
without_last ([] ∷ []) = omega arith
without_last ((b ∷ p) ∷ []) = omega arith
without_last (p ∷ q ∷ ps) =
    omega (arith, without_last (q ∷ ps), sum_by-cons length p (q ∷ ps), sum_by-cons length p (without_empty_last (q ∷ ps)))

module _ {A : Type 0} (with_line : A → List ℕ → Option A) (size : A → ℕ)
    (grows : (a : A) (line : List ℕ) → IfSome (with_line a line) (λ b. size b ≤ size a + length line)) where
  lines_size : (n : ℕ) (a : A) (ls : List (List ℕ)) → IfOk (with_lines with_line n a ls) (λ b. size b ≤ size a + sum_by length ls)
  lines_size n a [] = omega arith
  lines_size n a (line ∷ rest) =
      let one = grows a line in let sum = sum_by-cons length line rest in let more = λ (b : A). lines_size (n + 1) b rest in grind arith

  by_lines : (a : A) (ls : List (List ℕ)) → IfOk (with_all with_line a ls) (λ parts. length parts.0 + size parts.1 ≤ size a + sum_by length ls)
  by_lines a [] = tt
  by_lines a (first ∷ rest) = let bytes = field_is first in let all = lines_size 1 a rest in let sum = sum_by-cons length first rest in grind arith

  pub asked_size : (a b : A) (input first : List ℕ) → request_of with_line a input ≡ Ok (first, b) → length first + size b ≤ size a + length input
  unfolding request_of
  asked_size a b input first is =
      let least : length first + size b ≤ size a + sum_by length (lines input) =
      subst (λ (r : Result (List ℕ × A) ℕ). IfOk r (λ parts. length parts.0 + size parts.1 ≤ size a + sum_by length (lines input))) is
      (by_lines a (lines input)) in
      omega (arith, without_last (slice_split (is_byte 10) input), pieces_size 10 input)
