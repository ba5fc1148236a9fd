-- Tables of code point ranges: what they answer, and which are proper.
use Rattle.std.specs.Prelude.{◌≡◌, ℕ, ◌+◌, ◌<◌, ◌≤◌, ◌&&◌, ⊤, Bool, nat_le}
use Rattle.std.specs.Prelude.{List, [], ◌∷◌, if◌then◌else◌}

-- the largest code point of Unicode
abbrev pub max_code_point : ℕ
max_code_point = 1114111

-- a row: the first and the last code point of a range, and the value of all of them
abbrev pub Row : Type 0
Row = ℕ × ℕ × ℕ

-- whether the row's range has the code point
abbrev pub has : Row → ℕ → Bool
has r c = nat_le r.0 c && nat_le c r.1

-- what a table answers: the value of the row that has the code point, or 0
abbrev pub value_at : List Row → ℕ → ℕ
value_at [] c = 0
value_at (r ∷ rows) c = if has r c then r.2 else value_at rows c

-- a range of code points that has one, and a value that is not 0
pub record IsRow (r : Row) : Type 0 where
  pub order : r.0 ≤ r.1
  pub top : r.1 ≤ max_code_point
  pub some : 0 < r.2

-- the rows may stand after a range that ends before `start` and has that value: they begin at
-- `start` or above, and there with another value
abbrev pub MayFollow : ℕ → ℕ → List Row → Type 0
MayFollow start value [] = ⊤
MayFollow start value (r ∷ rows) = (start ≤ r.0) × (value ≡ r.2 → start < r.0)

-- Each row is one, and begins above the end of the row before it; where it begins right behind it,
-- the two values differ.
abbrev pub IsProper : List Row → Type 0
IsProper [] = ⊤
IsProper (r ∷ rows) = IsRow r × MayFollow (r.1 + 1) r.2 rows × IsProper rows

-- two tables answer the same for every code point
abbrev pub AnswerAlike : List Row → List Row → Type 0
AnswerAlike xs ys = (c : ℕ) → c ≤ max_code_point → value_at xs c ≡ value_at ys c
