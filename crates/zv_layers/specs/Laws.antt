-- The law of overlays within the limit on an input, a clause of a function.
use Rattle.std.specs.Prelude.{◌≡◌, ℕ, ◌≤◌, List, [], ◌∷◌, length, None, Ok, ⊤}
use Rattle.zv_map2d.specs.Image.{Stands}
use Rattle.zv_map2d.specs.Rows.{Rows}
use Rattle.zv_map2d_laws.specs.Overlays.{overlay}
use Rattle.zv_command.specs.Inputs.{request_of}
use Rattle.zv_command.specs.declared.reader.TheConstants.{MAX_INPUT}
use Rattle.zv_layers.specs.Refusals.{refusal}
use Rattle.zv_layers.specs.Requests.{with_layer}

-- no overlay is refused, as image after image is laid over a map
abbrev pub AreAccepted : Rows → List (List ℕ) → Type 0
AreAccepted m [] = ⊤
AreAccepted m (image ∷ images) = (o : Rows) → Stands image o →
    (refusal (overlay m o) ≡ None) × AreAccepted (overlay m o) images

-- of the images of an input within the limit none is too large or has too many pairs
abbrev pub NeverRefused : Type 0
NeverRefused = (input first : List ℕ) (more : List (List ℕ)) → length input ≤ MAX_INPUT →
    request_of with_layer [] input ≡ Ok (first, more) → AreAccepted [] (first ∷ more)
