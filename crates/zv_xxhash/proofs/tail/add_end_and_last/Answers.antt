use Rattle.std.proofs.Common.{◌≡◌, ℕ, List, [], ◌∷◌, ◌++◌, length, map, get_or, refl, ap, sym, ◌∙◌, arith}
use Rattle.std.specs.List.{range_with_len}
use Rattle.std.proofs.lemmas.List.FromFn.{fill_by_all}
use Rattle.zv_xxhash.specs.Digest.{with_rest}
use Rattle.zv_xxhash.proofs.Pieces.{end_and_last}
use Rattle.zv_xxhash.proofs.tail.add_end_and_last.Goals as goal

-- a list, number by number
each : (b : List ℕ) (n : ℕ) → length b ≡ n → map (λ k. get_or b k 0) (range_with_len 0 n) ≡ b
each b n len = sym (fill_by_all (λ k. get_or b k 0) b n 0 len (λ k _. refl))

pub returns-in-7 : goal.returns-in-7
returns-in-7 c = c.add_word.ensures ∙ ap (λ b. with_rest c.args.hash (b ++ c.args.last ∷ [])) (each c.args.bytes.now 7 (omega arith))

pub returns-in-3 : goal.returns-in-3
returns-in-3 c = c.add_half_word.ensures ∙ ap (λ b. with_rest c.args.hash (b ++ c.args.last ∷ [])) (each c.args.bytes.now 3 (omega arith))

pub returns-in_default : goal.returns-in_default
returns-in_default c = let end = end_and_last c.args.hash c.args.bytes.now c.args.last (omega arith) (omega arith) in cc
