-- A value or none with no tag: none is stored as a pattern that no value has.
use Rattle.std.specs.Prelude.{◌≡◌, ℕ, List, length, Option, Some, None, option_map, bytes_eq}
use Rattle.std.specs.Prelude.{if◌then◌else◌}
use Rattle.zv_ule.specs.Bytes.{IsBytes}
use Rattle.zv_ule.specs.declared.fixed.niche.NichedOptionULE.{NichedOptionULE}
use Rattle.zv_ule.specs.declared.error.UleError.{UleError}

-- the option that is stored
abbrev pub niched_option_of : {U : Type 0} {n : ℕ} → NichedOptionULE U n → Option U
niched_option_of stored = stored.value

-- n is the width, and the pattern is bytes of that width and no good chunk
pub record IsNiche (n width : ℕ) (fault : List ℕ → Option UleError) (pattern : List ℕ) :
    Type 0 where
  pub whole : n ≡ width
  pub each : IsBytes pattern
  pub long : length pattern ≡ width
  pub bad : (e : UleError) × (fault pattern ≡ Some e)

-- the pattern has no fault, and any other bytes have the value's
abbrev pub niche_fault : List ℕ → (List ℕ → Option UleError) → List ℕ → Option UleError
niche_fault pattern fault bytes = if bytes_eq bytes pattern then None else fault bytes

-- the pattern or the value's chunk
abbrev pub niche_chunk : {U : Type 0} → List ℕ → (U → List ℕ) → Option U → List ℕ
niche_chunk pattern chunk None = pattern
niche_chunk pattern chunk (Some u) = chunk u

-- the option that bytes are read as
abbrev pub niche_value : {U : Type 0} → List ℕ → (List ℕ → U) → List ℕ → Option U
niche_value pattern value bytes = if bytes_eq bytes pattern then None else Some (value bytes)

-- the same, its value as it is loaded
abbrev pub read_niche : {T U : Type 0} → List ℕ → (U → T) → (List ℕ → U) → List ℕ → Option T
read_niche pattern loaded value bytes = option_map loaded (niche_value pattern value bytes)
