-- An element or none: the byte 0, or the byte 1 and the element.
use Rattle.std.specs.Prelude.{ℕ, zero, suc, ◌+◌, ◌^◌, Bool, true, ◌&&◌, nat_lt, List, [], ◌∷◌}
use Rattle.std.specs.Prelude.{length, Option, Some, None}
use Rattle.zv_ule.specs.declared.error.UleError.{UleError}
use Rattle.zv_ule.specs.declared.error.UleError.TheVariants.{InvalidLength, ParseError}
use Rattle.zv_ule.specs.declared.error.TyName.TheVariants.{OptionVar}

-- the error of bytes that are to be an element or none
abbrev pub option_fault : (List ℕ → Option UleError) → List ℕ → Option UleError
option_fault fault [] = Some (InvalidLength OptionVar 0)
option_fault fault (zero ∷ []) = None
option_fault fault (zero ∷ b ∷ bytes) = Some (InvalidLength OptionVar (length (zero ∷ b ∷ bytes)))
option_fault fault (suc zero ∷ bytes) = fault bytes
option_fault fault (suc (suc n) ∷ bytes) = Some (ParseError OptionVar)

-- the element that bytes are read as
abbrev pub option_of : List ℕ → Option (List ℕ)
option_of [] = None
option_of (zero ∷ bytes) = None
option_of (suc n ∷ bytes) = Some bytes

module _ {E : Type 0} (fits : E → Bool) (spelling : E → List ℕ) where
  -- what a value or none is written as
  abbrev pub option_spelling : Option E → List ℕ
  option_spelling None = 0 ∷ []
  option_spelling (Some e) = 1 ∷ spelling e

  -- the value has a spelling, and there is room for a byte more
  abbrev pub option_fits : Option E → Bool
  option_fits None = true
  option_fits (Some e) = fits e && nat_lt (length (spelling e) + 1) (2 ^ 64)
