-- Worked tables.
use Rattle.std.specs.Prelude.{◌≡◌, ℕ, List, [], ◌∷◌, Some, None}
use Rattle.zv_ule.specs.declared.error.TyName.TheVariants.{Tuple3}
use Rattle.zv_ule.specs.declared.error.UleError.TheVariants.{InvalidLength}
use Rattle.zv_props.specs.declared.error.PropsError.{PropsError}
use Rattle.zv_props.specs.Faults.{table_fault}
use Rattle.zv_props.specs.Stored.{rows_of, table_bytes}
use Rattle.zv_props.specs.Tables.{Row, value_at}

-- the letters from A to z with the value 1, in ten bytes
abbrev pub letters : List ℕ
letters = 65 ∷ 0 ∷ 0 ∷ 0 ∷ 122 ∷ 0 ∷ 0 ∷ 0 ∷ 1 ∷ 0 ∷ []

abbrev pub LettersBytes : Type 0
LettersBytes = (table_bytes ((65, 122, 1) ∷ []) ≡ letters)
    × (rows_of letters ≡ (65, 122, 1) ∷ []) × (table_fault letters ≡ None)

-- both ends of a range have its value, and their neighbours have not
abbrev pub LettersValues : Type 0
LettersValues = (value_at ((65, 122, 1) ∷ []) 64 ≡ 0) × (value_at ((65, 122, 1) ∷ []) 65 ≡ 1)
    × (value_at ((65, 122, 1) ∷ []) 122 ≡ 1) × (value_at ((65, 122, 1) ∷ []) 123 ≡ 0)

abbrev pub fault_of : List Row → PropsError → Type 0
fault_of rows e = table_fault (table_bytes rows) ≡ Some e

-- one byte is no row
abbrev pub LengthIsTold : Type 0
LengthIsTold = table_fault (0 ∷ []) ≡ Some (PropsError.Ule (InvalidLength Tuple3 1))

-- rows that touch and have one value
abbrev pub JoinIsTold : Type 0
JoinIsTold = fault_of ((65, 69, 1) ∷ (70, 80, 1) ∷ []) (PropsError.Join 1)

-- rows that touch and have two values are a table
abbrev pub TwoValuesTouch : Type 0
TwoValuesTouch = table_fault (table_bytes ((65, 69, 1) ∷ (70, 80, 2) ∷ [])) ≡ None

-- rows that overlap; that they have one value does not count
abbrev pub OrderIsTold : Type 0
OrderIsTold = fault_of ((65, 69, 1) ∷ (69, 80, 1) ∷ []) (PropsError.Order 1)

-- a value of 0, a last code point below the first, one above 1,114,111
abbrev pub RowIsTold : Type 0
RowIsTold = fault_of ((65, 69, 0) ∷ []) (PropsError.Row 0)
    × fault_of ((65, 64, 1) ∷ []) (PropsError.Row 0)
    × fault_of ((65, 1114112, 1) ∷ []) (PropsError.Row 0)

-- the least row is told, and of that row what it is before how it stands
abbrev pub LeastIsTold : Type 0
LeastIsTold = fault_of ((65, 69, 1) ∷ (60, 80, 1) ∷ (90, 80, 1) ∷ []) (PropsError.Order 1)
    × fault_of ((65, 69, 1) ∷ (60, 50, 1) ∷ []) (PropsError.Row 1)
