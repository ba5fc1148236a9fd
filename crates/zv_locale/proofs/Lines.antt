-- What a line asks is no larger than the line.
use Rattle.zv_locale.proofs.Common.{◌≡◌, ◌≤◌, ℕ, List, [], ◌∷◌, length, None, Some, arith, sum_by, IfSome, length-slice_split, ask_of}
use Rattle.zv_input.proofs.Common.{command_size, is_byte, words}
use Rattle.zv_input.proofs.Fields.{key_is, pieces_size}
use Rattle.zv_input.specs.Input.{one_word}
use Rattle.zv_input.specs.declared.command.Command.{Command}

-- a word before others is not the only one
pub not_one : (word text : List ℕ) → one_word (word ∷ words text) ≡ None
not_one word text = let some = length-slice_split (is_byte 32) text in grind arith

ask_is : (ws : List (List ℕ)) → IfSome (ask_of ws) (λ ask. command_size ask ≤ sum_by length ws)
ask_is [] = tt
ask_is (a ∷ []) = tt
ask_is (a ∷ b ∷ []) = tt
ask_is (a ∷ b ∷ c ∷ []) = let first = key_is b in let second = key_is c in grind arith
ask_is (a ∷ b ∷ c ∷ d ∷ rest) = tt

pub line_fits : (line : List ℕ) (ask : Command) → Some ask ≡ ask_of (words line) → command_size ask ≤ length line
line_fits line ask is = let asks = ask_is (words line) in let size = pieces_size 32 line in grind arith
