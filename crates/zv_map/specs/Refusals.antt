-- When a change is refused.
use Rattle.std.specs.Prelude.{◌≡◌, Bool, true, false, Result, Ok, Err}
use Rattle.zv_owned.specs.declared.error.VecError.{VecError}
use Rattle.zv_owned.specs.declared.error.VecError.TheVariants.{TooLarge as VecTooLarge}
use Rattle.zv_owned.specs.declared.error.VecError.TheVariants.{Memory as VecMemory}
use Rattle.zv_map.specs.declared.error.MapError.{MapError}
use Rattle.zv_map.specs.declared.error.MapError.TheVariants.{TooLarge, Memory}

-- Refused as too large exactly where the size rule says no; an allocation fails only after that.
abbrev pub TooLargeUnless : {A : Type 0} → Bool → Result A MapError → Type 0
TooLargeUnless fits (Ok _) = fits ≡ true
TooLargeUnless fits (Err TooLarge) = fits ≡ false
TooLargeUnless fits (Err Memory) = fits ≡ true

-- the refusal of a container for that of its vector
abbrev pub refusal_of : VecError → MapError
refusal_of VecTooLarge = TooLarge
refusal_of VecMemory = Memory
