-- What the further lines of an input ask, and what is due to it.
use Rattle.std.specs.Prelude.{◌≡◌, ℕ, ◌+◌, List, [], ◌∷◌, ◌++◌, Option, Some, None, codes, length}
use Rattle.std.specs.Prelude.{if◌then◌else◌, map, nat_le, IsTrue, ⊤}
use Rattle.std.specs.Fmt.{decimal}
use Rattle.std.specs.Option.{option_map}
use Rattle.std.specs.Prelude.{Result, Vec}
use Rattle.std.specs.declared.alloc.Global.{Global}
use Rattle.std.specs.declared.result.Result.{Result}
use Rattle.std.specs.Prelude.{MatchResult}
use Rattle.zv_map2d.specs.Causes.{is_cause}
use Rattle.zv_map2d.specs.Image.{Stands, canon, fault}
use Rattle.zv_map2d.specs.Rows.{Rows}
use Rattle.zv_map2d.specs.Views.{Map2d}
use Rattle.zv_map2d.specs.declared.error.EditError.{EditError}
use Rattle.zv_map2d_laws.specs.Overlays.{overlay}
use Rattle.zv_input.specs.Input.{field}
use Rattle.zv_command.specs.Due.{Due, text_due}
use Rattle.zv_command.specs.Text.{line}
use Rattle.zv_command.specs.declared.status.Status.TheVariants.{BadImage, Done}
use Rattle.zv_image.specs.Text.{cause_word, image_line}
use Rattle.zv_layers.specs.declared.form.Refusal.{Refusal}
use Rattle.zv_layers.specs.declared.form.Refusal.TheVariants.{Fault, Memory}
use Rattle.zv_layers.specs.declared.form.TheConstants.{MORE_LAYERS}

-- ---- the lines after the first

-- the images with that of one line more: it is a field, and at most 63 follow the first
abbrev pub with_layer : List (List ℕ) → List ℕ → Option (List (List ℕ))
with_layer images line =
    if nat_le MORE_LAYERS (length images) then None
    else option_map (λ image. images ++ image ∷ []) (field line)

-- ---- what is due

-- the fault of an image, with its number, or else what the images after it have
abbrev pub fault_or : ℕ → Option EditError → Option (ℕ × EditError) → Option (ℕ × EditError)
fault_or n None rest = rest
fault_or n (Some cause) rest = Some (n, cause)

-- the number of the first image that has a fault, counted on from n, and that fault
abbrev pub first_fault : ℕ → List (List ℕ) → Option (ℕ × EditError)
first_fault n [] = None
first_fault n (image ∷ images) = fault_or n (fault image) (first_fault (n + 1) images)

-- the line of a layer's fault
abbrev pub layer_line : ℕ → EditError → List ℕ
layer_line n cause =
    codes "error layer " ++ (decimal n ++ line (codes " " ++ cause_word cause))

-- the maps that the images stand for leave the map, laid over one after another
abbrev pub Leaves : Rows → List (List ℕ) → Rows → Type 0
Leaves m [] left = left ≡ m
Leaves m (image ∷ images) left = (o : Rows) × Stands image o × Leaves (overlay m o) images left

-- the line of the canonical image of the map that the images leave, from the empty one on
abbrev pub IsLaid : List (List ℕ) → List ℕ → Type 0
IsLaid images text = (m : Rows) × Leaves [] images m × (text ≡ image_line (canon m))

-- the line of a fault, or these texts where there is none
abbrev pub laid_due : Option (ℕ × EditError) → (List ℕ → Type 0) → Due
laid_due None Answer = record { Text = Answer; status = Done }
laid_due (Some fault) Answer = text_due (layer_line fault.0 fault.1) BadImage

-- the line of the first fault of the images, or that of the image of all layers
unfoldable pub layers_due : List ℕ → List (List ℕ) → Due
layers_due first more = laid_due (first_fault 1 (first ∷ more)) (IsLaid (first ∷ more))

-- ---- the steps to it

-- the bytes of images
abbrev pub bytes_of_all : List (Vec ℕ Global) → List (List ℕ)
bytes_of_all images = map (λ v. v.items) images

-- what a refusal says of images, of which the first has the number n
abbrev pub IsRefusalOf : ℕ → List (List ℕ) → Refusal → Type 0
IsRefusalOf n images (Fault layer cause) =
    (first_fault n images ≡ Some (layer, cause)) × IsTrue (is_cause cause)
IsRefusalOf n images Memory = ⊤

-- image n was laid over a map, or is refused
abbrev pub IsLaidOver : Rows → ℕ → List ℕ → Result Map2d Refusal → Type 0
IsLaidOver m n image result = MatchResult result
    (λ left. (first_fault n (image ∷ []) ≡ None) × Leaves m (image ∷ []) left.rows)
    (IsRefusalOf n (image ∷ []))

-- images were laid one over another, or one of them is refused
abbrev pub IsLaidWith : List (List ℕ) → Result Map2d Refusal → Type 0
IsLaidWith images result = MatchResult result
    (λ left. (first_fault 1 images ≡ None) × Leaves [] images left.rows)
    (IsRefusalOf 1 images)
