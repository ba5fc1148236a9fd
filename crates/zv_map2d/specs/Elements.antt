-- Maps whose keys are elements of their kinds.
use Rattle.std.specs.Prelude.{Option}
use Rattle.std.specs.List.{AllByRecursion}
use Rattle.zv_ule.specs.declared.error.UleError.{UleError}
use Rattle.zv_map.specs.Keys.{IsElementOf}
use Rattle.zv_map2d.specs.Keys.{Bytes}
use Rattle.zv_map2d.specs.Rows.{Rows, firsts, seconds}

-- each key is an element
pub record AreElements (fault0 fault1 : Bytes → Option UleError) (m : Rows) : Type 0 where
  pub firsts : AllByRecursion (IsElementOf fault0) (firsts m)
  pub seconds : AllByRecursion (IsElementOf fault1) (seconds m)
