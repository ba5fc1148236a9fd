-- Worked answers of a map in two levels to a put, by whether it fits and whether the map is full.
use Rattle.std.specs.Prelude.{ℕ, Bool, true, false, Ok, Err}
use Rattle.zv_map2d.specs.Refusals.{RefusedUnless}
use Rattle.zv_map2d.specs.declared.error.Map2dError.TheVariants.{TooLarge, TooMany, Memory}

-- what fits into a map that has room is done
abbrev pub PutIsDone : Type 0
PutIsDone = RefusedUnless {A = ℕ} true false (Ok 0)

-- or wants memory
abbrev pub PutMayWantMemory : Type 0
PutMayWantMemory = RefusedUnless {A = ℕ} true false (Err Memory)

-- and is not too large
abbrev pub PutIsNotTooLarge : Type 0
PutIsNotTooLarge = RefusedUnless {A = ℕ} true false (Err TooLarge) → ⊥

-- nor one too many
abbrev pub PutIsNotTooMany : Type 0
PutIsNotTooMany = RefusedUnless {A = ℕ} true false (Err TooMany) → ⊥

-- what does not fit is too large, whether the map has room or is full
abbrev pub UnfitPutIsTooLarge : Type 0
UnfitPutIsTooLarge = (full : Bool) → RefusedUnless {A = ℕ} false full (Err TooLarge)

-- and not one too many
abbrev pub UnfitPutIsNotTooMany : Type 0
UnfitPutIsNotTooMany = (full : Bool) → RefusedUnless {A = ℕ} false full (Err TooMany) → ⊥

-- nor is it done
abbrev pub UnfitPutIsNotDone : Type 0
UnfitPutIsNotDone = (full : Bool) → RefusedUnless {A = ℕ} false full (Ok 0) → ⊥

-- and it asks for no memory before it is refused
abbrev pub UnfitPutWantsNoMemory : Type 0
UnfitPutWantsNoMemory = (full : Bool) → RefusedUnless {A = ℕ} false full (Err Memory) → ⊥

-- what fits is one too many for a full map
abbrev pub FullIsTooMany : Type 0
FullIsTooMany = RefusedUnless {A = ℕ} true true (Err TooMany)

-- and not too large
abbrev pub FullIsNotTooLarge : Type 0
FullIsNotTooLarge = RefusedUnless {A = ℕ} true true (Err TooLarge) → ⊥

-- nor is it done
abbrev pub FullIsNotDone : Type 0
FullIsNotDone = RefusedUnless {A = ℕ} true true (Ok 0) → ⊥

-- and it asks for no memory before it is refused
abbrev pub FullWantsNoMemory : Type 0
FullWantsNoMemory = RefusedUnless {A = ℕ} true true (Err Memory) → ⊥
