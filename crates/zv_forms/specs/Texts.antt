-- What a form is read as of a text.
use Rattle.std.specs.Prelude.{◌≡◌, ◌⊎◌, Option, Some, None, Result, Err}
use Rattle.serde_json.specs.Data.{Data}
use Rattle.zv_json.specs.declared.error.JsonError.{JsonError}
use Rattle.zv_json.specs.declared.error.JsonError.TheVariants.{Memory, Syntax}

-- of a text that has a value, what is read of it; of any other, that it is no JSON; and of either,
-- that memory was refused
abbrev pub ReadsText : {A : Type 0} → (Data → Result A JsonError → Type 0) → Option Data →
    Result A JsonError → Type 0
ReadsText reads None r = (r ≡ Err Memory) ⊎ (r ≡ Err Syntax)
ReadsText reads (Some d) r = (r ≡ Err Memory) ⊎ reads d r
