-- A value or none: a tag byte, then the value or as many zeros.
use Rattle.std.specs.Prelude.{ℕ, zero, suc, List, ◌∷◌, drop, replicate, slice_index, Option, Some}
use Rattle.std.specs.Prelude.{None, option_map, eqb, if◌then◌else◌}
use Rattle.std.specs.List.{list_all}
use Rattle.zv_ule.specs.declared.fixed.option.OptionULE.{OptionULE}
use Rattle.zv_ule.specs.declared.error.TyName.TheVariants.{Opt}
use Rattle.zv_ule.specs.declared.error.UleError.{UleError}
use Rattle.zv_ule.specs.declared.error.UleError.TheVariants.{ParseError}

-- the option that is stored
abbrev pub option_of : {U : Type 0} → OptionULE U → Option U
option_of stored = stored.value

-- the error of the bytes after a tag: zeros after 0, a value after 1, and no other tag
abbrev pub tagged_fault : (List ℕ → Option UleError) → ℕ → List ℕ → Option UleError
tagged_fault fault zero rest = if list_all (λ x. eqb x 0) rest then None else Some (ParseError Opt)
tagged_fault fault (suc zero) rest = fault rest
tagged_fault fault (suc (suc n)) rest = Some (ParseError Opt)

-- the error of a tag and the bytes after it
abbrev pub option_fault : (List ℕ → Option UleError) → List ℕ → Option UleError
option_fault fault bytes = tagged_fault fault (slice_index bytes 0) (drop 1 bytes)

-- the tag, then the value's chunk or as many zeros
abbrev pub option_chunk : {U : Type 0} → ℕ → (U → List ℕ) → Option U → List ℕ
option_chunk width chunk None = 0 ∷ replicate width 0
option_chunk width chunk (Some u) = 1 ∷ chunk u

-- what stands after a tag
abbrev pub tagged_value : {U : Type 0} → (List ℕ → U) → ℕ → List ℕ → Option U
tagged_value value zero rest = None
tagged_value value (suc n) rest = Some (value rest)

-- the option that bytes are read as
abbrev pub option_value : {U : Type 0} → (List ℕ → U) → List ℕ → Option U
option_value value bytes = tagged_value value (slice_index bytes 0) (drop 1 bytes)

-- the same, its value as it is loaded
abbrev pub read_option : {T U : Type 0} → (U → T) → (List ℕ → U) → List ℕ → Option T
read_option loaded value bytes = option_map loaded (option_value value bytes)
