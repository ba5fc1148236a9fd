-- What a change leaves: the rows below a range, the range, and those above it.
use Rattle.zv_props.proofs.Common.{◌≡◌, ℕ, zero, suc, ◌+◌, ◌-◌, ◌<◌, ◌≤◌, List, [], ◌∷◌, ◌++◌, length, take, drop, refl, arith, nat_tests, inl, inr}
use Rattle.zv_props.proofs.Common.{AnswerAlike, IsPlace, IsProper, IsRow, Row, row_at, value_at, max_code_point}
use Rattle.zv_props.proofs.Runs.{AreRuns, BeginFrom, answers, behind, moved, none_before, proper_from, rest_from, run_at, runs_of}
use Rattle.zv_props.specs.Changes.{cut_below, middle, right_part, with_left, with_range}
use Rattle.zv_props.specs.Joining.{add}

-- the places of two code points lie in their order
pub places_rise : (rows : List Row) (c d m n : ℕ) → IsPlace rows c m → IsPlace rows d n → c ≤ d → m ≤ n
places_rise rows c d m n first second le = grind (arith, first.before n, second.after n)

-- a row before others, which may touch it, and rows behind them, which don't
added : (f : ℕ → ℕ) (z : Row) (rows back : List Row) → IsRow z → AreRuns f (z.1 + 1) (rows ++ back) → BeginFrom (z.1 + 2) back →
    ((c : ℕ) → z.0 ≤ c → c ≤ z.1 → f c ≡ z.2) → AreRuns f z.0 (add z rows ++ back)
added f z [] [] is runs far same = grind arith
added f z [] (s ∷ rows) is runs far same = grind arith
added f z (s ∷ rows) back is runs far same = grind (arith, nat_tests)

-- rows before a place, where the row there gives way to others
before : (f g : ℕ → ℕ) (s : ℕ) (rows : List Row) (i : ℕ) (new : List Row) → AreRuns g s rows → i < length rows →
    ((c : ℕ) → c ≤ (row_at rows i).0 → f c ≡ g c) → AreRuns f (row_at rows i).0 new → AreRuns f s (take i rows ++ new)
before f g s [] i new runs lt same back = absurd (omega arith)
before f g s (y ∷ rows) zero new runs lt same back = moved f f y.0 s new back (grind arith) (grind arith) (λ c low high. refl)
before f g s (x ∷ rows) (suc i) new runs lt same back =
    let next = run_at g (x.1 + 1) rows i runs.1 (omega arith) in
    (grind (arith, next.1, next.2.from), before f g (x.1 + 1) rows i new runs.1 (omega arith) same back)

module _ (rows : List Row) (r : Row) (low high start : ℕ) (few new : List Row) (at_low : IsPlace rows r.0 low) (at_high : IsPlace rows (r.1 + 2) high)
    (proper : IsProper rows) (order : r.0 ≤ r.1) (top : r.1 ≤ max_code_point) where
  -- what is left of the rows above the range
  above : AreRuns (value_at rows) (r.1 + 1) (right_part rows high r.1 ++ drop high rows)
  above =
      let both = behind rows (r.1 + 2) high proper at_high in
      let rest = rest_from rows (r.1 + 2) high at_high in
      let shorter = λ (s : ℕ). moved (value_at rows) (value_at rows) s (r.1 + 1) (drop high rows) in
      grind (arith, nat_tests, shorter 0, shorter ((row_at rows (high - 1)).1 + 1))

  module _ (mid back : List Row) (far : BeginFrom (r.1 + 2) back) where
    -- the range, or nothing for the value 0
    ranged : AreRuns (value_at rows) (r.1 + 1) (mid ++ back) → AreRuns (value_at (r ∷ rows)) r.0 (with_range r mid ++ back)
    ranged runs =
        let f = value_at (r ∷ rows) in
        grind (arith, nat_tests, moved (value_at rows) f (r.1 + 1) (r.1 + 1) (mid ++ back), moved f f (r.1 + 1) r.0 (mid ++ back), added f r mid back)

    -- the rows below the range
    below : AreRuns (value_at (r ∷ rows)) r.0 (mid ++ back) →
        AreRuns (value_at (r ∷ rows)) 0 (take (low - 1) rows ++ (with_left rows low r.0 mid ++ back))
    below runs =
        let f = value_at (r ∷ rows) in
        let g = value_at rows in
        let y = row_at rows (low - 1) in
        let z = cut_below r.0 y in
        let rest = rest_from rows r.0 low at_low in
        elim (behind rows r.0 low proper at_low) [
          | inl none ↦ rw none.0 (grind (arith, nat_tests, none_before g 0 r.0 (drop low rows) none.1 rest, moved f f r.0 0 (mid ++ back)))
          | inr some ↦
              let after = none_before g (y.1 + 1) r.0 (drop low rows) some.4 rest in
              let is : IsRow z = record { order = grind arith; top = grind arith; some = some.3.row.some } in
              let here = added f z mid back is (moved f f r.0 (z.1 + 1) (mid ++ back) runs (grind arith) (grind (arith, nat_tests)) (grind arith)) in
              grind (arith, nat_tests, here, before f g 0 rows (low - 1) (add z mid ++ back) (runs_of rows proper))
        ]

  module _ (from : start ≡ low - 1) (of : few ≡ middle rows low high r) (is : new ≡ take start rows ++ (few ++ drop high rows)) where
    changed : AreRuns (value_at (r ∷ rows)) 0 new
    changed =
        let far = rest_from rows (r.1 + 2) high at_high in
        rw (is, of, from) (below _ (drop high rows) far (ranged _ (drop high rows) far above))

    pub changed_proper : IsProper new
    changed_proper = proper_from (value_at (r ∷ rows)) 0 new changed

    pub changed_alike : AnswerAlike new (r ∷ rows)
    changed_alike c le = (answers (value_at (r ∷ rows)) 0 new changed c).1 (omega arith)

pub ruleset changes = (places_rise, changed_proper, changed_alike)
