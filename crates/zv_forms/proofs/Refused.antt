-- A pair that a map in two levels refuses.
use Rattle.std.proofs.Common.{◌≡◌, ◌⊎◌, ◌&&◌, not, Bool, Ok, Err, if◌then◌else◌, inl, inr, refl}
use Rattle.zv_forms.specs.Maps2d.{refusal_of}
use Rattle.zv_json.specs.declared.error.JsonError.TheVariants.{Memory as JsonMemory}
use Rattle.zv_json.specs.declared.error.JsonError.TheVariants.{TooLarge as JsonTooLarge}
use Rattle.zv_map2d.specs.Refusals.{IsRefusal}
use Rattle.zv_map2d.specs.Rows.{Rows}
use Rattle.zv_map2d.specs.declared.error.Map2dError.{Map2dError}
use Rattle.zv_map2d.specs.declared.error.Map2dError.TheVariants.{TooLarge, TooMany, Memory}

-- it is too large, unless memory was refused
pub refused : (fits full : Bool) (m : Rows) (e : Map2dError) → IsRefusal fits full e
    → (refusal_of e ≡ JsonMemory) ⊎ ((if fits && not full then Ok m else Err JsonTooLarge) ≡ Err (refusal_of e))
refused fits full m TooLarge h = inr (rw h refl)
refused fits full m TooMany h = inr (rw (h.0, h.1) refl)
refused fits full m Memory h = inl refl
