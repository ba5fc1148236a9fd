-- An element that is borrowed or owned.
use Rattle.std.specs.Prelude.{ℕ, List, Bool, true, false}
use Rattle.zv_ule.specs.Views.{element_of}
use Rattle.zv_ule.specs.declared.kind.ZvKind.{Ghosts as KindGhosts}
use Rattle.zv_multi.specs.declared.cow.VarZeroCow.{VarZeroCow}
use Rattle.zv_multi.specs.declared.cow.VarZeroCow.TheVariants.{Borrowed, Owned}

module _ {V : Type 0} {kind : KindGhosts V} where
  -- the element's bytes
  abbrev pub cow_bytes : VarZeroCow V kind → List ℕ
  cow_bytes (Borrowed view) = element_of view
  cow_bytes (Owned bytes) = bytes

  -- whether they are owned
  abbrev pub cow_owned : VarZeroCow V kind → Bool
  cow_owned (Borrowed view) = false
  cow_owned (Owned bytes) = true
