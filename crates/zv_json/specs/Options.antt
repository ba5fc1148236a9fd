-- Values that may be missing.
use Rattle.std.specs.Prelude.{Option, Some, None, Result, Ok, ⊤}
use Rattle.serde_json.specs.Data.{Data, null}
use Rattle.serde_json.specs.Find.{as_null}
use Rattle.zv_json.specs.Json.{and_then}
use Rattle.zv_json.specs.declared.error.JsonError.{JsonError}

-- the JSON of a value, and null for none
abbrev pub option_data : {A : Type 0} → (A → Option Data) → Option A → Option Data
option_data written None = Some null
option_data written (Some v) = written v

-- none for null, and else what is read
abbrev pub unless_null : {A : Type 0} → Option ⊤ → Result A JsonError → Result (Option A) JsonError
unless_null (Some _) read = Ok None
unless_null None read = and_then read (λ v. Ok (Some v))

-- what a reader makes of a value that may be missing
abbrev pub option_in : {A : Type 0} → (Data → Result A JsonError) → Data →
    Result (Option A) JsonError
option_in read d = unless_null (as_null d) (read d)
