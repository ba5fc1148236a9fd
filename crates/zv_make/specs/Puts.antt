-- The puts of a made table.
use Rattle.std.specs.Prelude.{ℕ, zero, suc, ◌+◌, ◌*◌, ◌%◌, List, [], ◌∷◌, ◌++◌, codes}
use Rattle.std.specs.Fmt.{decimal}
use Rattle.std.specs.Int.{to_le_bytes, w16}
use Rattle.zv_input.specs.declared.command.Command.{Command}
use Rattle.zv_input.specs.declared.command.Command.TheVariants.{Put}

-- the numbers of the puts: 7, and then five times the one before and 3, modulo 4096
abbrev pub number_of : ℕ → ℕ
number_of zero = 7
number_of (suc n) = (5 * number_of n + 3) % 4096

-- the put of a number: its first key is `r` and the number modulo 64, its second key `k` and the
-- number, both in decimal, and its value the number in two bytes, the lower first
abbrev pub put_of : ℕ → Command
put_of x = Put (codes "r" ++ decimal (x % 64)) (codes "k" ++ decimal x) (to_le_bytes w16 x)

-- the first n puts
abbrev pub puts : ℕ → List Command
puts zero = []
puts (suc n) = puts n ++ put_of (number_of n) ∷ []
