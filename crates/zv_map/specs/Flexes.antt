-- What a list with fields of two bytes or of four stands for.
use Rattle.std.specs.Prelude.{◌≡◌, ℕ, ◌+◌, ◌-◌, List, Bool, true, false, ◌&&◌, nat_le, length}
use Rattle.std.specs.Prelude.{if◌then◌else◌}
use Rattle.zv_ule.specs.declared.kind.ZvKind.{Ghosts as KindGhosts}
use Rattle.zv_owned.specs.Size.{size}
use Rattle.zv_owned.specs.Widths.{wide}
use Rattle.zv_owned.specs.Vectors.{vector_bytes, vector_list, vector_owned, vector_spare}
use Rattle.zv_map.specs.Layouts.{encoding_in}
use Rattle.zv_map.specs.declared.flex.FlexVec.{FlexVec}
use Rattle.zv_map.specs.declared.flex.FlexVec.TheVariants.{Narrow, Wide}
use Rattle.zv_map.specs.declared.view.Layout.{Layout}
use Rattle.zv_map.specs.declared.view.Layout.TheVariants.{Fixed, Index16, Index32}

module _ {T : Type 0} {kind : KindGhosts T} where
  -- the byte strings of its elements
  abbrev pub flex_list : FlexVec T kind → List (List ℕ)
  flex_list (Narrow v) = vector_list v
  flex_list (Wide v) = vector_list v

  -- its bytes
  abbrev pub flex_bytes : FlexVec T kind → List ℕ
  flex_bytes (Narrow v) = vector_bytes v
  flex_bytes (Wide v) = vector_bytes v

  -- whether it owns them
  abbrev pub flex_owned : FlexVec T kind → Bool
  flex_owned (Narrow v) = vector_owned v
  flex_owned (Wide v) = vector_owned v

  -- whether its fields have four bytes
  abbrev pub flex_wide : FlexVec T kind → Bool
  flex_wide (Narrow v) = false
  flex_wide (Wide v) = true

  -- how its bytes spell the list
  abbrev pub flex_layout : FlexVec T kind → Layout
  flex_layout v = if flex_wide v then Index32 else Index16

  -- how many bytes its memory holds
  abbrev pub flex_capacity : FlexVec T kind → ℕ
  flex_capacity (Narrow v) = length (vector_bytes v) + vector_spare v
  flex_capacity (Wide v) = length (vector_bytes v) + vector_spare v

  -- whether it owns its bytes, in memory that holds the list with fields of four bytes
  abbrev pub flex_roomy : FlexVec T kind → Bool
  flex_roomy v = flex_owned v && nat_le (size 4 (flex_list v)) (flex_capacity v)

  -- how many bytes more than that its memory holds, where it owns them
  abbrev pub flex_spare : FlexVec T kind → ℕ
  flex_spare v = if flex_owned v then flex_capacity v - size 4 (flex_list v) else 0

  -- its bytes are those that the list is written as in its form
  abbrev pub IsExact : FlexVec T kind → Type 0
  IsExact v = flex_bytes v ≡ encoding_in (flex_layout v) (flex_list v)

-- the layout that a list needs: fields of four bytes exactly where those of two would make it
-- longer than 65,535 bytes
abbrev pub flex_settled : List (List ℕ) → Layout
flex_settled xs = if wide xs then Index32 else Index16

-- whether the layout has fields
abbrev pub has_fields : Layout → Bool
has_fields (Fixed width) = false
has_fields Index16 = true
has_fields Index32 = true
