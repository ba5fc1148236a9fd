-- Numbers in decimal digits.
use Rattle.std.specs.Prelude.{ℕ, ◌+◌, ◌-◌, ◌*◌, ◌==◌, ◌&&◌, nat_le, List, [], ◌∷◌, if◌then◌else◌}
use Rattle.std.specs.Char.{is_ascii_digit}
use Rattle.std.specs.declared.option.Option.{Option}
use Rattle.std.specs.declared.option.Option.TheVariants.{Some, None}

-- what digits make of the number before them, unless it comes above a limit
abbrev pub number_on : ℕ → ℕ → List ℕ → Option ℕ
number_on most n [] = Some n
number_on most n (d ∷ digits) =
    if is_ascii_digit d && nat_le (10 * n + (d - 48)) most
    then number_on most (10 * n + (d - 48)) digits else None

-- the number that a word spells in decimal without leading zeros, up to a limit
abbrev pub number : ℕ → List ℕ → Option ℕ
number most [] = None
number most (d ∷ []) = number_on most 0 (d ∷ [])
number most (d ∷ e ∷ digits) = if d == 48 then None else number_on most 0 (d ∷ e ∷ digits)
