-- How many comparisons are made.
use Rattle.std.specs.Prelude.{ℕ, ◌+◌, ◌*◌, ◌<◌, ◌≤◌, ◌^◌}

-- n is at most the number of binary digits of how many rows there are and, for each try, that of
-- how many pairs the found row has
abbrev pub AtMostDigitsOfTries : ℕ → ℕ → ℕ → ℕ → Type 0
AtMostDigitsOfTries n rows tries pairs =
    (j k : ℕ) → rows < 2 ^ j → pairs < 2 ^ k → n ≤ j + tries * k
