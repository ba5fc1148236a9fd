-- A value of fixed width, and an element behind it.
use Rattle.std.specs.Prelude.{ℕ, List, length, take, drop, nat_lt, Option, Some, if◌then◌else◌}
use Rattle.std.specs.Option.{option_or}
use Rattle.zv_ule.specs.declared.error.UleError.{UleError}
use Rattle.zv_ule.specs.declared.error.UleError.TheVariants.{InvalidLength}
use Rattle.zv_ule.specs.declared.error.TyName.TheVariants.{VarTuple as NameOfVarTuple}

-- the error of bytes of which the first w are to be the value: there are fewer, or else that of the
-- value, or else that of the element
abbrev pub var_tuple_fault : ℕ → (List ℕ → Option UleError) → (List ℕ → Option UleError) →
    List ℕ → Option UleError
var_tuple_fault w sized variable bytes =
    if nat_lt (length bytes) w then Some (InvalidLength NameOfVarTuple (length bytes))
    else option_or (sized (take w bytes)) (variable (drop w bytes))
