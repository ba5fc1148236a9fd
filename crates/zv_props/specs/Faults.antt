-- Why bytes are no table.
use Rattle.std.specs.Prelude.{ℕ, ◌+◌, ◌&&◌, ◌==◌, Bool, nat_le, nat_lt, List, [], ◌∷◌}
use Rattle.std.specs.Prelude.{Option, Some, None, if◌then◌else◌}
use Rattle.std.specs.Option.{option_or}
use Rattle.zv_ule.specs.declared.error.UleError.{UleError}
use Rattle.zv_props.specs.Tables.{Row, max_code_point}
use Rattle.zv_props.specs.Stored.{list_fault, rows_of}
use Rattle.zv_props.specs.declared.error.PropsError.{PropsError}
use Rattle.zv_props.specs.declared.error.PropsError.TheVariants.{Ule, Row as BadRow, Order, Join}

-- a range of code points that has one, and a value that is not 0
abbrev pub is_row : Row → Bool
is_row r = nat_le r.0 r.1 && nat_le r.1 max_code_point && nat_lt 0 r.2

-- the error of the row at a place, after a range that ends before `start` and has that value
abbrev pub row_fault : ℕ → ℕ → ℕ → Row → Option PropsError
row_fault place start value r =
    if is_row r then
    (if nat_lt r.0 start then Some (Order place)
    else if start == r.0 && r.2 == value then Some (Join place) else None)
    else Some (BadRow place)

-- the error of the least row that has one; the first row stands at that place
abbrev pub rows_fault : ℕ → ℕ → ℕ → List Row → Option PropsError
rows_fault place start value [] = None
rows_fault place start value (r ∷ rows) =
    option_or (row_fault place start value r) (rows_fault (place + 1) (r.1 + 1) r.2 rows)

-- the error of bytes that are no list, or else that of the list's rows
abbrev pub fault_or : Option UleError → Option PropsError → Option PropsError
fault_or None rows = rows
fault_or (Some e) rows = Some (Ule e)

-- the error of bytes that are no table
abbrev pub table_fault : List ℕ → Option PropsError
table_fault bytes = fault_or (list_fault bytes) (rows_fault 0 0 0 (rows_of bytes))
