-- Worked answers of a container to a change, by whether its size rule takes it.
use Rattle.std.specs.Prelude.{ℕ, true, false, Ok, Err}
use Rattle.zv_map.specs.Refusals.{TooLargeUnless}
use Rattle.zv_map.specs.declared.error.MapError.TheVariants.{TooLarge, Memory}

-- what fits is done
abbrev pub FitsIsDone : Type 0
FitsIsDone = TooLargeUnless {A = ℕ} true (Ok 0)

-- or wants memory
abbrev pub FitsMayWantMemory : Type 0
FitsMayWantMemory = TooLargeUnless {A = ℕ} true (Err Memory)

-- and is never too large
abbrev pub FitsIsNotTooLarge : Type 0
FitsIsNotTooLarge = TooLargeUnless {A = ℕ} true (Err TooLarge) → ⊥

-- what does not fit is too large
abbrev pub UnfitIsTooLarge : Type 0
UnfitIsTooLarge = TooLargeUnless {A = ℕ} false (Err TooLarge)

-- and is not done
abbrev pub UnfitIsNotDone : Type 0
UnfitIsNotDone = TooLargeUnless {A = ℕ} false (Ok 0) → ⊥

-- and asks for no memory before it is refused
abbrev pub UnfitWantsNoMemory : Type 0
UnfitWantsNoMemory = TooLargeUnless {A = ℕ} false (Err Memory) → ⊥
