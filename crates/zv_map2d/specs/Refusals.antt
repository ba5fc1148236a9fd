-- When a pair isn't put into a map.
use Rattle.std.specs.Prelude.{◌≡◌, Bool, true, false, nat_le, length, Result, Ok, Err}
use Rattle.zv_map.specs.declared.error.MapError.{MapError}
use Rattle.zv_map.specs.declared.error.MapError.TheVariants.{TooLarge as ContainerTooLarge}
use Rattle.zv_map.specs.declared.error.MapError.TheVariants.{Memory as ContainerMemory}
use Rattle.zv_map2d.specs.Rows.{Rows, seconds}
use Rattle.zv_map2d.specs.declared.error.Map2dError.{Map2dError}
use Rattle.zv_map2d.specs.declared.error.Map2dError.TheVariants.{TooLarge, TooMany, Memory}

-- the map has 2 ^ 32 - 1 pairs, so that its joiner could not count one more
abbrev pub is_full : Rows → Bool
is_full m = nat_le 4294967295 (length (seconds m))

-- why it is refused: as too large exactly where the value doesn't fit, and as too many exactly
-- where it fits and no pair more can be counted; an allocation fails only after both
abbrev pub IsRefusal : Bool → Bool → Map2dError → Type 0
IsRefusal fits full TooLarge = fits ≡ false
IsRefusal fits full TooMany = (fits ≡ true) × (full ≡ true)
IsRefusal fits full Memory = (fits ≡ true) × (full ≡ false)

-- and only then
abbrev pub RefusedUnless : {A : Type 0} → Bool → Bool → Result A Map2dError → Type 0
RefusedUnless fits full (Ok _) = (fits ≡ true) × (full ≡ false)
RefusedUnless fits full (Err e) = IsRefusal fits full e

-- the refusal of a map for that of a container
abbrev pub refusal_of : MapError → Map2dError
refusal_of ContainerTooLarge = TooLarge
refusal_of ContainerMemory = Memory
