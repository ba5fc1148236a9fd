-- Elements and arguments that stand for one.
use Rattle.std.specs.Prelude.{ℕ, Bool, List}
use Rattle.std.specs.Ordering.{is_eq}
use Rattle.std.specs.declared.cmp.Ordering.{Ordering}

-- whether what is written for an argument compares as equal to an element
abbrev pub is_same : {Q : Type 0} → (List ℕ → List ℕ → Ordering) → (Q → List ℕ) → List ℕ → Q → Bool
is_same cmp bytes element argument = is_eq (cmp (bytes argument) element)
