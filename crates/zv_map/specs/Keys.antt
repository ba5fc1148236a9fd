-- Keys: the elements of a kind, and lists of them, each below the next.
use Rattle.std.specs.Prelude.{◌≡◌, Option, None}
use Rattle.std.specs.declared.cmp.Ordering.{Ordering}
use Rattle.zv_ule.specs.Bytes.{IsBytes}
use Rattle.zv_ule.specs.declared.error.UleError.{UleError}
pub use Rattle.zv_ule.specs.Search.{Bytes, nth, below_next, ascends}

-- an order of keys
abbrev pub Order : Type 0
Order = Bytes → Bytes → Ordering

-- a byte string that is an element, by the fault of its kind
pub record IsElementOf (fault : Bytes → Option UleError) (k : Bytes) : Type 0 where
  pub bytes : IsBytes k
  pub valid : fault k ≡ None
