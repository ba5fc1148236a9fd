-- Gaps in a buffer.
use Rattle.std.specs.Prelude.{◌≡◌, ℕ, List, ◌++◌, length}

-- p, then a bytes, then m, then b bytes, and then t
pub record IsRegapped (p : List ℕ) (a : ℕ) (m : List ℕ) (b : ℕ) (t bytes : List ℕ) : Type 0 where
  pub first : List ℕ
  pub second : List ℕ
  pub is : bytes ≡ p ++ (first ++ (m ++ (second ++ t)))
  pub first_long : length first ≡ a
  pub second_long : length second ≡ b
