-- How many comparisons look-ups make.
use Rattle.std.specs.Prelude.{ℕ, ◌+◌, ◌<◌, ◌≤◌, ◌^◌}

-- n is at most the number of binary digits of a and of b together
abbrev pub AtMostDigitsOf : ℕ → ℕ → ℕ → Type 0
AtMostDigitsOf n a b = (j k : ℕ) → a < 2 ^ j → b < 2 ^ k → n ≤ j + k
