-- The search among the first code points of rows.
use Rattle.zv_props.proofs.Common.{◌≡◌, ℕ, suc, ◌+◌, ◌-◌, ◌^◌, ◌<◌, List, [], length, take, drop, map, ◌∙◌, ap, arith, nat_tests, nat_cmp, Equal, length-map}
use Rattle.zv_props.proofs.Common.{Found, Rises, answer_at, IsPlace, row_at, IsProper, Row, row, rows_of, value_at, Err, Ok, Result}
use Rattle.std.proofs.lemmas.List.{get_or-drop, get_or-map, length-drop}
use Rattle.std.proofs.lemmas.Nat.{from_le_bytes-to_le_bytes_4}
use Rattle.zv_ule.specs.Chunks.{chunks_of}
use Rattle.zv_props.proofs.Runs.{run_at, runs_of}
use Rattle.zv_props.specs.Places.{firsts_by}

-- a row begins below each one after it
later : (rows : List Row) (i j : ℕ) → IsProper rows → i < j → j < length rows → (row_at rows i).0 < (row_at rows j).0
later rows i j proper lt within =
    let here = run_at (value_at rows) 0 rows i (runs_of rows proper) (omega arith) in
    let there = run_at (value_at rows) ((row_at rows i).1 + 1) (drop (suc i) rows) (j - suc i) here.3 (simp length-drop (omega arith)) in
    let same : row_at (drop (suc i) rows) (j - suc i) ≡ row_at rows j = get_or-drop (suc i) rows (j - suc i) (0, 0, 0) ∙ ap (row_at rows) (omega arith) in
    omega (arith, here.2.row.order, there.1, there.2.from, ap (λ r. r.0) same)

-- what a search for c says of the place that it found
module _ (bytes : List ℕ) (c : ℕ) (proper : IsProper (rows_of bytes)) (lt : c < 2 ^ 32) where
  count : length (firsts_by bytes c) ≡ length (rows_of bytes)
  count = simp length-map

  answer : (i : ℕ) → i < length (rows_of bytes) → answer_at (firsts_by bytes c) i ≡ nat_cmp (row_at (rows_of bytes) i).0 c
  answer i h =
      let cs = chunks_of 10 bytes in
      let short : i < length cs = simp length-map at h in
      let first : i < length (map (take 4) cs) = simp length-map short in
      rw (get_or-map _ (map (take 4) cs) i [] Equal first, get_or-map (take 4) cs i [] [] short, get_or-map row cs i [] (0, 0, 0) short)
      (rw (from_le_bytes-to_le_bytes_4 c lt))

  rises : Rises (firsts_by bytes c)
  rises i j le within = grind (arith, nat_tests, count, answer i, answer j, later (rows_of bytes) i j proper)

  pub ok_place : (found : Result ℕ ℕ) (i : ℕ) → Found (firsts_by bytes c) found → found ≡ Ok i → IsPlace (rows_of bytes) (c + 1) (i + 1)
  ok_place found i holds is =
      let hit = rw is at holds in
      record {
        within = omega (arith, hit.within, count);
        before = λ j lt. grind (arith, nat_tests, count, answer i, later (rows_of bytes) j i proper);
        after = λ j le lt. grind (arith, nat_tests, count, answer i, later (rows_of bytes) i j proper);
      }

  pub err_place : (found : Result ℕ ℕ) (i : ℕ) → Found (firsts_by bytes c) found → found ≡ Err i → IsPlace (rows_of bytes) (c + 1) i
  err_place found i holds is =
      let gap = (rw is at holds).1 rises in
      record {
        within = omega (arith, gap.within, count);
        before = λ j lt. grind (arith, nat_tests, count, answer j, gap.less j);
        after = λ j le lt. grind (arith, nat_tests, count, answer j, gap.greater j);
      }
