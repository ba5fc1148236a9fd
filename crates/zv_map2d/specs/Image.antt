-- The image of a map from two texts to bytes: what it stands for, why it is refused, and its
-- canonical form.
use Rattle.std.specs.Prelude.{◌≡◌, ◌==◌, ◌++◌, ℕ, List, Option, Some, None, flat_map}
use Rattle.std.specs.Cmp.Lexicographic.{slice_cmp}
use Rattle.std.specs.List.{AllByRecursion}
use Rattle.std.specs.Ordering.{nat_cmp}
use Rattle.zv_ule.specs.Bytes.{le}
use Rattle.zv_ule.specs.Chunks.{chunks_fault}
use Rattle.zv_ule.specs.Kinds.{text_fault}
use Rattle.zv_ule.specs.declared.error.TyName.{TyName}
use Rattle.zv_ule.specs.declared.error.UleError.{UleError}
use Rattle.zv_var.specs.Format.{enc, elements, list_fault, Part}
use Rattle.zv_var.specs.Nested.{slice_fault}
use Rattle.zv_owned.specs.Widths.{wide}
use Rattle.zv_map2d.specs.Keys.{Bytes, Order}
use Rattle.zv_map2d.specs.Rows.{Rows, firsts, seconds, values, ends, IsWell}
use Rattle.zv_map2d.specs.Formats.{IsFormed, head_of, unformed, width}
use Rattle.zv_map2d.specs.Frame.{Parts, frame}
use Rattle.zv_map2d.specs.Causes.{Reading, Readings, reading, readings, read_fault}
use Rattle.zv_map.specs.Layouts.{field_width}
use Rattle.zv_map2d.specs.Views.{Map2d, written_parts}
use Rattle.zv_map2d.specs.declared.error.EditError.{EditError}
use Rattle.zv_map2d.specs.declared.image.WideLists.{WideLists}

-- byte strings by their first difference, a prefix being below
abbrev pub by_bytes : Order
by_bytes = slice_cmp nat_cmp

-- the error of bytes that are to be a slice of bytes: none
abbrev pub bytes_fault : Bytes → Option UleError
bytes_fault = chunks_fault TyName.U8 1 (λ b. None)

-- how a list with fields of w bytes is read, of elements for which `fault` has no error
abbrev pub var_list : ℕ → (Bytes → Option UleError) → Reading
var_list w fault = reading (λ b. slice_fault (list_fault w fault b)) (elements w)

-- how a map from two texts to bytes is read whose lists have these formats
abbrev pub texts_in : WideLists → Readings
texts_in w = readings (var_list (width w.keys0) text_fault) (var_list (width w.keys1) text_fault)
    (var_list (width w.values) bytes_fault) by_bytes by_bytes

-- each is a text
abbrev pub AreTexts : List Bytes → Type 0
AreTexts xs = AllByRecursion (λ x. text_fault x ≡ None) xs

-- keys are texts that ascend, and no row is empty
pub record IsTextMap (m : Rows) : Type 0 where
  pub in_order : IsWell by_bytes by_bytes m
  pub texts0 : AreTexts (firsts m)
  pub texts1 : AreTexts (seconds m)

-- the parts are spellings of the lists of the map, which have these formats
pub record Spells (w : WideLists) (p : Parts) (m : Rows) : Type 0 where
  pub keys0 : Part (width w.keys0) p.keys0 (firsts m)
  pub joiner : p.joiner ≡ flat_map (le 4) (ends m)
  pub keys1 : Part (width w.keys1) p.keys1 (seconds m)
  pub values : Part (width w.values) p.values (values m)

-- the image stands for the map
pub record Stands (image : List ℕ) (m : Rows) : Type 0 where
  pub map : IsTextMap m
  pub lists : WideLists
  pub parts : Parts
  pub formed : IsFormed image lists parts
  pub spelled : Spells lists parts m

-- why an image of these formats and parts is refused, or one that is not formed
abbrev pub fault_of : Option (WideLists × Parts) → Option EditError
fault_of None = Some EditError.Frame
fault_of (Some formed) = read_fault (texts_in formed.0) formed.1

-- why an image is refused
abbrev pub fault : List ℕ → Option EditError
fault image = fault_of (unformed image)

-- the parts of a map whose lists have these formats: no bytes for an empty list
abbrev pub spelling_in : WideLists → Rows → Parts
spelling_in w m =
    written_parts (enc (width w.keys0)) (enc (width w.keys1)) (enc (width w.values)) m

-- the lists of the map that don't fit fields of two bytes
abbrev pub wides_of : Rows → WideLists
wides_of m =
    record { keys0 = wide (firsts m); keys1 = wide (seconds m); values = wide (values m) }

-- the lists of a map whose fields have four bytes
abbrev pub lists_of : Map2d → WideLists
lists_of m = record {
  keys0 = field_width m.keys0.layout == 4;
  keys1 = field_width m.keys1.layout == 4;
  values = field_width m.values.layout == 4;
}

-- the map's canonical image: those lists are wide, and if any is, a head says so
abbrev pub canon : Rows → List ℕ
canon m = head_of (wides_of m) ++ frame (spelling_in (wides_of m) m)
