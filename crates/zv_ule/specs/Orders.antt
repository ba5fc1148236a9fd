-- Orders of values.
use Rattle.std.specs.Prelude.{◌≡◌}
use Rattle.std.specs.declared.cmp.Ordering.{Ordering}
use Rattle.std.specs.declared.cmp.Ordering.TheVariants.{Equal}

-- values that compare Equal are the same value
abbrev pub EqualOnlyIfSame : {V : Type 0} → (V → Type 0) → (V → V → Ordering) → Type 0
EqualOnlyIfSame {V} is_value cmp = (v w : V) → is_value v → is_value w → cmp v w ≡ Equal → v ≡ w
