-- The rows that a change writes.
use Rattle.std.specs.Prelude.{ℕ, ◌+◌, ◌-◌, ◌==◌, nat_lt, min, List, [], ◌∷◌, if◌then◌else◌}
use Rattle.zv_props.specs.Joining.{add}
use Rattle.zv_props.specs.Places.{row_at}
use Rattle.zv_props.specs.Tables.{Row}

-- what is left of a row below a range
abbrev pub cut_below : ℕ → Row → Row
cut_below first r = (r.0, min r.1 (first - 1), r.2)

-- and above it, for a row that begins right behind the range or before
abbrev pub cut_above : ℕ → Row → List Row
cut_above last r = if nat_lt last r.1 then (last + 1, r.1, r.2) ∷ [] else []

-- what is left above a range of the row before a place, if there is one
abbrev pub right_part : List Row → ℕ → ℕ → List Row
right_part rows place last = if place == 0 then [] else cut_above last (row_at rows (place - 1))

-- a range with its value before other rows, or nothing for the value 0
abbrev pub with_range : Row → List Row → List Row
with_range r right = if r.2 == 0 then right else add r right

-- before other rows what is left below a range of the row before a place, if there is one
abbrev pub with_left : List Row → ℕ → ℕ → List Row → List Row
with_left rows place first right =
    if place == 0 then right else add (cut_below first (row_at rows (place - 1))) right

-- a range between what is left of the rows at its ends, which begin before the two places
abbrev pub middle : List Row → ℕ → ℕ → Row → List Row
middle rows low high r = with_left rows low r.0 (with_range r (right_part rows high r.1))
