-- The layouts in which bytes spell a list.
use Rattle.std.specs.Prelude.{ℕ, ◌%◌, ◌==◌, Bool, false, ◌&&◌, List, length, Option, is_none}
use Rattle.std.specs.List.{concat}
use Rattle.zv_ule.specs.Chunks.{chunks_of, first_fault}
use Rattle.zv_ule.specs.Fixed.{is_width}
use Rattle.zv_ule.specs.declared.error.UleError.{UleError}
use Rattle.zv_var.specs.Format.{elements, enc, list_fault}
use Rattle.zv_map.specs.declared.view.Layout.{Layout}
use Rattle.zv_map.specs.declared.view.Layout.TheVariants.{Fixed, Index16, Index32}

-- the list that bytes spell in a layout
abbrev pub list_in : Layout → List ℕ → List (List ℕ)
list_in (Fixed width) bytes = chunks_of width bytes
list_in Index16 bytes = elements 2 bytes
list_in Index32 bytes = elements 4 bytes

-- whether bytes spell a list of elements without a fault
abbrev pub spells_in : Layout → (List ℕ → Option UleError) → List ℕ → Bool
spells_in (Fixed width) fault bytes =
    is_width width
    && (length bytes % width == 0 && is_none (first_fault fault (chunks_of width bytes)))
spells_in Index16 fault bytes = is_none (list_fault 2 fault bytes)
spells_in Index32 fault bytes = is_none (list_fault 4 fault bytes)

-- the bytes that a list is written as in a layout: none where it is empty
abbrev pub encoding_in : Layout → List (List ℕ) → List ℕ
encoding_in (Fixed width) xs = concat xs
encoding_in Index16 xs = enc 2 xs
encoding_in Index32 xs = enc 4 xs

-- whether the layout is that of elements of so many bytes
abbrev pub is_fixed : ℕ → Layout → Bool
is_fixed width (Fixed given) = given == width
is_fixed width Index16 = false
is_fixed width Index32 = false

-- the width of a field in bytes, and 0 where the layout has no fields
abbrev pub field_width : Layout → ℕ
field_width (Fixed width) = 0
field_width Index16 = 2
field_width Index32 = 4
