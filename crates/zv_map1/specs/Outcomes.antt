-- What an edit of a map leaves, and what it gives back.
use Rattle.std.specs.Prelude.{◌≡◌, Bool, Option, option_map, Result, OnOk, IfOk, IfErr}
use Rattle.zv_map.specs.Refusals.{TooLargeUnless}
use Rattle.zv_map.specs.declared.error.MapError.{MapError}
use Rattle.zv_map.specs.declared.error.MapError.TheVariants.{TooLarge, Memory}
use Rattle.zv_map1.specs.Room.{IsSameMap, KeepsOwned}
use Rattle.zv_map1.specs.Views.{Bytes, Map1, Pairs}

-- a refusal leaves the map as it was; a failed allocation may leave vectors owned, with more room
abbrev pub IsLeftBy : Map1 → Map1 → MapError → Type 0
IsLeftBy old new TooLarge = new ≡ old
IsLeftBy old new Memory = IsSameMap old new

-- done, it leaves the pairs m in vectors that keep what they own, and gives back the value v, if
-- there is one; and it is refused unless what is new fits
pub record Inserts {A : Type 0} (bytes : A → Bytes) (old new : Map1) (m : Pairs)
    (v : Option Bytes) (fits : Bool) (r : Result (Option A) MapError) : Type 0 where
  pub pairs : OnOk r (new.pairs ≡ m)
  pub before : IfOk r (λ o. option_map bytes o ≡ v)
  pub owned : OnOk r (KeepsOwned old new)
  pub err : IfErr r (IsLeftBy old new)
  pub refused : TooLargeUnless fits r
