-- Records: so many fields one after another, behind the starts of all but the first. w is the width
-- of a start in bytes, and n is how many fields there are.
use Rattle.std.specs.Prelude.{ℕ, ◌==◌, ◌+◌, ◌-◌, ◌*◌, ◌^◌, Bool, List, [], ◌∷◌, length, map, sum}
use Rattle.std.specs.Prelude.{Option, Some, None, nat_lt, slice_index_or}
use Rattle.std.specs.Prelude.{if◌then◌else◌}
use Rattle.std.specs.List.{list_all}
use Rattle.std.specs.Option.{option_or}
use Rattle.std.specs.Ordering.{ordering_then}
use Rattle.std.specs.declared.cmp.Ordering.{Ordering}
use Rattle.std.specs.declared.cmp.Ordering.TheVariants.{Equal}
use Rattle.zv_ule.specs.declared.error.TyName.{TyName}
use Rattle.zv_ule.specs.declared.error.TyName.TheVariants.{MultiFields, Tuple2Var, Tuple3Var}
use Rattle.zv_ule.specs.declared.error.TyName.TheVariants.{Tuple4Var, Tuple5Var, Tuple6Var}
use Rattle.zv_ule.specs.declared.error.UleError.{UleError}
use Rattle.zv_var.specs.Format.{elements_after, fault_after}
use Rattle.zv_var.specs.Nested.{lengthless_fault}

-- the name of the kind of records of n fields
abbrev pub record_name : ℕ → TyName
record_name n = if n == 2 then Tuple2Var else if n == 3 then Tuple3Var else if n == 4 then Tuple4Var
    else if n == 5 then Tuple5Var else if n == 6 then Tuple6Var else MultiFields

-- every byte string is a field
abbrev pub no_fault : List ℕ → Option UleError
no_fault bytes = None

-- why bytes are no n fields of any bytes
abbrev pub shape_fault : ℕ → ℕ → List ℕ → Option UleError
shape_fault w n b = lengthless_fault (fault_after w no_fault n b)

-- the field at place i
abbrev pub field_at : List (List ℕ) → ℕ → List ℕ
field_at xs i = slice_index_or xs i []

-- the first fault of the fields from place i on, the tests being those of their kinds
abbrev pub fields_fault : List (List ℕ → Option UleError) → ℕ → List (List ℕ) → Option UleError
fields_fault [] i xs = None
fields_fault (K ∷ Ks) i xs = option_or (K (field_at xs i)) (fields_fault Ks (i + 1) xs)

-- why bytes are no record of fields of these kinds
abbrev pub record_fault : ℕ → ℕ → List (List ℕ → Option UleError) → List ℕ → Option UleError
record_fault w n Ks b = option_or (shape_fault w n b) (fields_fault Ks 0 (elements_after w n b))

-- the order of two records by their fields from place i on, each by its own order
abbrev pub fields_order : List (List ℕ → List ℕ → Ordering) → ℕ → List (List ℕ) → List (List ℕ) →
    Ordering
fields_order [] i xs ys = Equal
fields_order (cmp ∷ cmps) i xs ys =
    ordering_then (cmp (field_at xs i) (field_at ys i)) (fields_order cmps (i + 1) xs ys)

-- how many bytes fields of these lengths take, if they are fewer than the largest number of a start
abbrev pub encoded_len : ℕ → List ℕ → Option ℕ
encoded_len w lengths =
    if nat_lt (w * (length lengths - 1) + sum lengths) (256 ^ w - 1)
    then Some (w * (length lengths - 1) + sum lengths) else None

-- where each of several fields starts, if the first starts at n
abbrev pub offsets_from : ℕ → List ℕ → List ℕ
offsets_from n [] = []
offsets_from n (l ∷ ls) = n ∷ offsets_from (n + l) ls

-- where each but the first starts
abbrev pub offsets : List ℕ → List ℕ
offsets [] = []
offsets (l ∷ ls) = offsets_from l ls

-- how many bytes values take as a record, if each has a spelling and the record is short enough
abbrev pub record_len : ℕ → List Bool → List (List ℕ) → Option ℕ
record_len w fits xs = if list_all (λ b. b) fits then encoded_len w (map length xs) else None
