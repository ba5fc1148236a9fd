-- Where a code point stands among the rows of a table.
use Rattle.std.specs.Prelude.{ℕ, ◌<◌, ◌≤◌, List, length, map, slice_index_or, take}
use Rattle.std.specs.Int.{w32, from_le_bytes, to_le_bytes}
use Rattle.std.specs.Ordering.{nat_cmp, on}
use Rattle.std.specs.declared.cmp.Ordering.{Ordering}
use Rattle.zv_ule.specs.Chunks.{chunks_of}
use Rattle.zv_ule.specs.Search.{compared}
use Rattle.zv_props.specs.Tables.{Row}

-- the row at a place
abbrev pub row_at : List Row → ℕ → Row
row_at rows i = slice_index_or rows i (0, 0, 0)

-- the place that parts the rows that begin below c from the others
pub record IsPlace (rows : List Row) (c place : ℕ) : Type 0 where
  pub within : place ≤ length rows
  pub before : (i : ℕ) → i < place → (row_at rows i).0 < c
  pub after : (i : ℕ) → place ≤ i → i < length rows → c ≤ (row_at rows i).0

-- how the first code points of the rows that bytes are compare with c
abbrev pub firsts_by : List ℕ → ℕ → List Ordering
firsts_by bytes c =
    compared (on (from_le_bytes w32) nat_cmp) (map (take 4) (chunks_of 10 bytes))
    (to_le_bytes w32 c)
