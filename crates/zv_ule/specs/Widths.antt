-- Bounds of widths.
use Rattle.std.specs.Prelude.{ℕ, ◌≤◌}

-- a width of at least 1 and at most so much
pub record IsWithin (most w : ℕ) : Type 0 where
  pub some : 1 ≤ w
  pub short : w ≤ most
