-- What a search by a predicate over values finds.
use Rattle.std.specs.Prelude.{◌≡◌, ℕ, List, Some, slice_get, Result, IfOk}
use Rattle.std.specs.Fn.{Mut, Called}
use Rattle.std.specs.declared.cmp.Ordering.{Ordering}
use Rattle.std.specs.declared.cmp.Ordering.TheVariants.{Equal}
use Rattle.zv_fixed.specs.Calls.{Asked}

module _ {F T : Type 0} (g : Mut F (T × Unit {0}) Ordering) where
  -- after some calls of f it answers Equal at the value at place i
  pub record ComesToEqual (f : F) (xs : List T) (i : ℕ) : Type 0 where
    pub value : T
    pub there : slice_get xs i ≡ Some value
    pub calls : List (T × Ordering)
    pub before : F
    pub after : F
    pub asked : Asked g f calls before
    pub equal : Called g before (value, tt) Equal after

  -- a place that was found is one where the predicate f answered Equal
  abbrev pub AnsweredEqual : F → List T → Result ℕ ℕ → Type 0
  AnsweredEqual f xs r = IfOk r (ComesToEqual f xs)
