-- Proper tables as the runs of what they answer: ranges of code points with one value that isn't 0, each as long as it can be.
use Rattle.zv_props.proofs.Common.{◌≡◌, ℕ, zero, suc, ◌+◌, ◌-◌, ◌<◌, ◌≤◌, ◌==◌, ◌||◌, ◌⊎◌, ⊤, List, [], ◌∷◌, length, drop, refl, arith, nat_tests, inl, inr}
use Rattle.zv_props.proofs.Common.{AnswerAlike, IsPlace, IsProper, IsRow, Row, row_at, value_at, max_code_point, if◌then◌else◌, drop-cons, drop_all}
use Rattle.zv_props.proofs.Common.{get_or_from_slice_get, nat_lt}

-- the rows begin at c or above
abbrev pub BeginFrom : ℕ → List Row → Type 0
BeginFrom c [] = ⊤
BeginFrom c (r ∷ rows) = c ≤ r.0

-- the row is the first run of a function from a code point on
pub record IsRun (f : ℕ → ℕ) (start : ℕ) (r : Row) : Type 0 where
  pub row : IsRow r
  pub from : start ≤ r.0
  pub none : (c : ℕ) → start ≤ c → c < r.0 → f c ≡ 0
  pub same : (c : ℕ) → r.0 ≤ c → c ≤ r.1 → f c ≡ r.2
  pub ends : f (r.1 + 1) ≡ r.2 → ⊥

-- the rows are all runs from there on
abbrev pub AreRuns : (ℕ → ℕ) → ℕ → List Row → Type 0
AreRuns f start [] = (c : ℕ) → start ≤ c → f c ≡ 0
AreRuns f start (r ∷ rows) = IsRun f start r × AreRuns f (r.1 + 1) rows

-- no run before the first
pub none_before : (f : ℕ → ℕ) (s t : ℕ) (rows : List Row) → AreRuns f s rows → BeginFrom t rows → (c : ℕ) → s ≤ c → c < t → f c ≡ 0
none_before f s t [] runs from c le lt = runs c le
none_before f s t (r ∷ rows) runs from c le lt = runs.0.none c le (omega arith)

-- the same runs are those of another function, or from another place on
pub moved : (f g : ℕ → ℕ) (s t : ℕ) (rows : List Row) → AreRuns f s rows → (s < t → BeginFrom t rows) → ((c : ℕ) → t ≤ c → c < s → g c ≡ 0) →
    ((c : ℕ) → s ≤ c → t ≤ c → g c ≡ f c) → AreRuns g t rows
moved f g s t [] runs from zeros same = grind arith
moved f g s t (r ∷ rows) runs from zeros same = grind (arith, moved f g (r.1 + 1) (r.1 + 1) rows)

-- ---- a proper table is the runs of what it answers, and the other way round

pub runs_of : (rows : List Row) → IsProper rows → AreRuns (value_at rows) 0 rows
runs_of [] proper = λ c le. refl
runs_of (r ∷ []) proper = grind (arith, nat_tests)
runs_of (r ∷ s ∷ rows) proper =
    let runs = runs_of (s ∷ rows) proper.2 in
    (grind (arith, nat_tests), moved (value_at (s ∷ rows)) _ 0 (r.1 + 1) (s ∷ rows) runs (λ lt. proper.1.0) (grind arith) (grind (arith, nat_tests)))

pub proper_from : (f : ℕ → ℕ) (start : ℕ) (rows : List Row) → AreRuns f start rows → IsProper rows
proper_from f start [] runs = tt
proper_from f start (r ∷ []) runs = (runs.0.row, tt, tt)
proper_from f start (r ∷ s ∷ rows) runs = let rest = proper_from f (r.1 + 1) (s ∷ rows) runs.1 in grind arith

pub answers : (f : ℕ → ℕ) (start : ℕ) (rows : List Row) → AreRuns f start rows → (c : ℕ) →
    (c < start → value_at rows c ≡ 0) × (start ≤ c → value_at rows c ≡ f c)
answers f start [] runs c = grind arith
answers f start (r ∷ rows) runs c = let rest = answers f (r.1 + 1) rows runs.1 c in grind (arith, nat_tests)

-- functions with the same values have the same runs
module _ (f g : ℕ → ℕ) (alike : (c : ℕ) → c ≤ max_code_point → f c ≡ g c) where
  same_run : (start : ℕ) (x y : Row) → IsRun f start x → IsRun g start y → x ≡ y
  same_run start (a, b, c) (d, e, h) left right =
      let same : (a ≡ d) × (b ≡ e) × (c ≡ h) = grind (arith, alike a, alike d, alike (b + 1), alike (e + 1)) in
      cc

  same_runs : (start : ℕ) (xs ys : List Row) → AreRuns f start xs → AreRuns g start ys → xs ≡ ys
  same_runs start [] [] left right = refl
  same_runs start [] (y ∷ ys) left right = grind (arith, alike y.0, left y.0)
  same_runs start (x ∷ xs) [] left right = grind (arith, alike x.0, right x.0)
  same_runs start (x ∷ xs) (y ∷ ys) left right =
      let same = same_run start x y left.0 right.0 in
      rw (same, same_runs (y.1 + 1) xs ys (rw same at left.1) right.1) refl

-- tables that answer alike are the same
pub one_table : (xs ys : List Row) → IsProper xs → IsProper ys → AnswerAlike xs ys → xs ≡ ys
one_table xs ys left right alike = same_runs (value_at xs) (value_at ys) alike 0 xs ys (runs_of xs left) (runs_of ys right)

-- ---- by places

-- the run at a place, and those behind it
pub run_at : (f : ℕ → ℕ) (s : ℕ) (rows : List Row) (i : ℕ) → AreRuns f s rows → i < length rows →
    (t : ℕ) × (s ≤ t) × IsRun f t (row_at rows i) × AreRuns f ((row_at rows i).1 + 1) (drop (suc i) rows)
run_at f s [] i runs lt = absurd (omega arith)
run_at f s (r ∷ rows) zero runs lt = (s, omega arith, runs.0, runs.1)
run_at f s (r ∷ rows) (suc i) runs lt = grind (arith, run_at f (r.1 + 1) rows i runs.1)

-- where the rows behind a place begin
pub rest_from : (rows : List Row) (c place : ℕ) → IsPlace rows c place → BeginFrom c (drop place rows)
rest_from rows c place is = grind (arith, drop-cons rows place (0, 0, 0), drop_all place rows)

-- what a place parts: no row from the others, or a row and those before it
pub behind : (rows : List Row) (c place : ℕ) → IsProper rows → IsPlace rows c place → let r = row_at rows (place - 1) in
    ((place ≡ 0) × AreRuns (value_at rows) 0 (drop place rows))
    ⊎ ((0 < place) × (r.0 < c) × (t : ℕ) × IsRun (value_at rows) t r × AreRuns (value_at rows) (r.1 + 1) (drop place rows))
behind rows c zero proper is = inl (refl, runs_of rows proper)
behind rows c (suc i) proper is =
    let there = run_at (value_at rows) 0 rows i (runs_of rows proper) is.within in
    let back : suc i - 1 ≡ i = omega arith in
    rw back (inr (omega arith, is.before i (omega arith), there.0, there.2, there.3))

-- the value of a code point by its place
module _ (rows : List Row) (c place : ℕ) (proper : IsProper rows) (is : IsPlace rows (c + 1) place) where
  by_place : value_at rows c ≡ (if (place == 0) || nat_lt (row_at rows (place - 1)).1 c then 0 else (row_at rows (place - 1)).2)
  by_place =
      let both = behind rows (c + 1) place proper is in
      let none = λ (s : ℕ). none_before (value_at rows) s (c + 1) (drop place rows) in
      let rest = rest_from rows (c + 1) place is in
      grind (arith, nat_tests, none 0, none ((row_at rows (place - 1)).1 + 1))

  pub before_rows : place ≡ 0 → value_at rows c ≡ 0
  before_rows none = let v = by_place in grind (arith, nat_tests)

  pub in_row : 0 < place → c ≤ (row_at rows (place - 1)).1 → value_at rows c ≡ (row_at rows (place - 1)).2
  in_row some le = let v = by_place in grind (arith, nat_tests)

  pub past_row : 0 < place → (row_at rows (place - 1)).1 < c → value_at rows c ≡ 0
  past_row some le = let v = by_place in grind (arith, nat_tests)

pub ruleset look_up = (before_rows, in_row, past_row, get_or_from_slice_get)
