-- Parts one after another, each after its length.
use Rattle.std.specs.Prelude.{ℕ, zero, suc, ◌==◌, List, [], ◌∷◌, length, if◌then◌else◌}
use Rattle.std.specs.Prelude.{Option, Some, None, IfSome, option_and_then}
use Rattle.std.specs.List.{flat_map}
use Rattle.std.specs.Option.{option_map, option_map_or}
use Rattle.zv_var.specs.Frame.{framed, first_part}
use Rattle.zv_framed.specs.declared.error.FormError.{FormError}

-- the frame of parts
abbrev pub frame_of : List (List ℕ) → List ℕ
frame_of parts = flat_map framed parts

-- the n parts that bytes are the frame of, or nothing where a length is cut or more than is left,
-- or bytes follow the last part
abbrev pub parts_in : ℕ → List ℕ → Option (List (List ℕ))
parts_in zero bytes = if length bytes == 0 then Some [] else None
parts_in (suc n) bytes =
    option_and_then (λ cut. option_map (λ rest. cut.0 ∷ rest) (parts_in n cut.1)) (first_part bytes)

-- why bytes are no frame of n parts that `fault` finds nothing wrong with
abbrev pub form_fault : ℕ → (List (List ℕ) → Option FormError) → List ℕ → Option FormError
form_fault n fault bytes = option_map_or fault (parts_in n bytes) (Some FormError.Frame)

-- bytes are a frame of n parts, which the value is read from
abbrev pub IsReadFrom : {A : Type 0} → ℕ → (List (List ℕ) → A → Type 0) → List ℕ → A → Type 0
IsReadFrom n IsRead bytes value = IfSome (parts_in n bytes) (λ parts. IsRead parts value)
