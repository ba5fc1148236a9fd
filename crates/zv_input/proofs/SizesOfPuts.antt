-- How large puts are.
use Rattle.zv_input.proofs.Common.{◌≡◌, ◌≤◌, List, [], ◌∷◌, ◌++◌, arith, sum_by-cons, sum_by_push, Command, command_size, total_size, all_puts}
use Rattle.zv_input.proofs.Common.{put_sizes, sizes_of, total_of}
use Rattle.zv_ule.proofs.Lists.{all_append}

-- puts are no larger than their commands
pub one_within : (c : Command) → total_of (sizes_of c) ≤ command_size c
one_within c = grind arith

pub puts_within : (cs : List Command) → total_of (put_sizes cs) ≤ total_size cs
puts_within [] = omega arith
puts_within (c ∷ cs) = omega (arith, one_within c, puts_within cs, sum_by-cons command_size c cs)

-- one put more
pub put_sizes_push : (cs : List Command) (c : Command) → put_sizes (cs ++ c ∷ []) ≡ all_puts (put_sizes cs) (sizes_of c)
put_sizes_push [] c = grind arith
put_sizes_push (d ∷ cs) c = let ih = put_sizes_push cs c in grind arith

pub ruleset added_sizes = (one_within, puts_within, put_sizes_push, sum_by_push, all_append)
