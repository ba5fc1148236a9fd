-- What a list that is borrowed or owned stands for.
use Rattle.std.specs.Prelude.{ℕ, List, Bool, Option, Some, None, is_some}
use Rattle.zv_ule.specs.declared.kind.ZvKind.{Ghosts as KindGhosts}
use Rattle.zv_ule.specs.declared.element.ULE.{Ghosts as UleGhosts}
use Rattle.zv_ule.specs.declared.format.integer.IntegerULE.{Ghosts as IntegerGhosts}
use Rattle.zv_ule.specs.declared.format.VarZeroVecFormat.{Ghosts as FormatGhosts}
use Rattle.zv_var.specs.Views.{bytes_of, list_of}
use Rattle.zv_owned.specs.Owned.{Owned}
use Rattle.zv_owned.specs.declared.vector.VarZeroVec.{VarZeroVec}

-- the owned list's own, else the view's
abbrev pub list_in : Option Owned → List (List ℕ) → List (List ℕ)
list_in None viewed = viewed
list_in (Some v) viewed = v.list

abbrev pub bytes_in : Option Owned → List ℕ → List ℕ
bytes_in None viewed = viewed
bytes_in (Some v) viewed = v.bytes

abbrev pub spare_in : Option Owned → ℕ
spare_in None = 0
spare_in (Some v) = v.spare

module _ {T F Index Len : Type 0} {kind : KindGhosts T} {format : FormatGhosts F Index Len}
    {i : IntegerGhosts Index} {iu : UleGhosts Index} {l : IntegerGhosts Len}
    {lu : UleGhosts Len} where
  -- the byte strings of the elements
  abbrev pub vector_list : VarZeroVec T F Index Len kind format i iu l lu → List (List ℕ)
  vector_list v = list_in v.slot (list_of v.view)

  -- its bytes
  abbrev pub vector_bytes : VarZeroVec T F Index Len kind format i iu l lu → List ℕ
  vector_bytes v = bytes_in v.slot (bytes_of v.view)

  -- how many more bytes its memory holds, which is none where it is borrowed
  abbrev pub vector_spare : VarZeroVec T F Index Len kind format i iu l lu → ℕ
  vector_spare v = spare_in v.slot

  -- whether it owns its bytes
  abbrev pub vector_owned : VarZeroVec T F Index Len kind format i iu l lu → Bool
  vector_owned v = is_some v.slot
