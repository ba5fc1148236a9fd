-- Worked examples of searches: how many steps they may take, and where a gap is.
use Rattle.std.specs.Prelude.{ℕ, [], ◌∷◌}
use Rattle.std.specs.declared.cmp.Ordering.TheVariants.{Less, Greater}
use Rattle.zv_ule.specs.Search.{AtMostDigits, IsGap}

-- 5 is 101 in binary: three steps are within its digits, and four are not
abbrev pub ThreeStepsInFive : Type 0
ThreeStepsInFive = AtMostDigits 3 5

abbrev pub FourStepsInFive : Type 0
FourStepsInFive = AtMostDigits 4 5

-- 0 has no digit
abbrev pub NoStepInNone : Type 0
NoStepInNone = AtMostDigits 0 0

abbrev pub OneStepInNone : Type 0
OneStepInNone = AtMostDigits 1 0

-- of two elements the first is less than what is sought, and the second is greater
abbrev pub IsGapOfTwo : ℕ → Type 0
IsGapOfTwo i = IsGap (Less ∷ Greater ∷ []) i

-- both are greater
abbrev pub IsGapBeforeTwo : ℕ → Type 0
IsGapBeforeTwo i = IsGap (Greater ∷ Greater ∷ []) i
