-- Worked examples of the size rule and of the count of steps.
use Rattle.std.specs.Prelude.{◌≡◌, ℕ, List, [], ◌∷◌, replicate, true, false, Ok, Err, Some, None}
use Rattle.zv_owned.specs.Owned.{TooLargeUnless}
use Rattle.zv_owned.specs.Size.{takes_insert, takes_pushes, takes_replace}
use Rattle.zv_owned.specs.Splices.{most_steps}
use Rattle.zv_owned.specs.declared.error.VecError.TheVariants.{TooLarge, Memory}

-- the list of one element of n bytes
abbrev pub one_of : ℕ → List (List ℕ)
one_of n = replicate n 97 ∷ []

-- with fields of two bytes, a field holds at most 65,535: an empty list takes an element of one
-- byte less
abbrev pub EmptyTakesBelowMost : Type 0
EmptyTakesBelowMost = takes_insert 2 [] 65534 ≡ true

-- and none of that many
abbrev pub EmptyRefusesMost : Type 0
EmptyRefusesMost = takes_insert 2 [] 65535 ≡ false

-- a list of one element of 10 bytes is 12 bytes long, and takes one of 65,521 bytes beside it
abbrev pub SecondIsTaken : Type 0
SecondIsTaken = takes_insert 2 (one_of 10) 65521 ≡ true

-- and none of one more
abbrev pub LongerSecondIsRefused : Type 0
LongerSecondIsRefused = takes_insert 2 (one_of 10) 65522 ≡ false

-- an only element of 10 bytes gives way to one of 65,533
abbrev pub OnlyGivesWay : Type 0
OnlyGivesWay = takes_replace 2 (one_of 10) 10 65533 ≡ true

-- and to none of one more
abbrev pub OnlyStays : Type 0
OnlyStays = takes_replace 2 (one_of 10) 10 65534 ≡ false

-- with fields of one byte, an empty list takes an element of 254 bytes
abbrev pub ShortTakesBelowMost : Type 0
ShortTakesBelowMost = takes_insert 1 [] 254 ≡ true

-- and none of 255
abbrev pub ShortRefusesMost : Type 0
ShortRefusesMost = takes_insert 1 [] 255 ≡ false

-- a list of one element of 254 bytes is full: it takes not even an element of no bytes
abbrev pub FullTakesNone : Type 0
FullTakesNone = takes_insert 1 (one_of 254) 0 ≡ false

-- but another element of 254 bytes may stand in place of its own
abbrev pub FullTakesSameSize : Type 0
FullTakesSameSize = takes_replace 1 (one_of 254) 254 254 ≡ true

-- elements of 100, of 100 and of n bytes
abbrev pub three_of : ℕ → List (List ℕ)
three_of n = replicate 100 97 ∷ replicate 100 97 ∷ replicate n 97 ∷ []

-- with fields of one byte, those of 100, 100 and 52 bytes are taken one after another: they make a
-- list of 255 bytes
abbrev pub ThreeAreTaken : Type 0
ThreeAreTaken = takes_pushes (takes_insert 1) [] (three_of 52) ≡ true

-- and not with one byte more
abbrev pub ThirdIsRefused : Type 0
ThirdIsRefused = takes_pushes (takes_insert 1) [] (three_of 53) ≡ false

-- a change that the rule takes is made
abbrev pub TakenIsOk : Type 0
TakenIsOk = TooLargeUnless {A = ℕ} true (Ok 0)

-- or it wants memory
abbrev pub TakenMayWantMemory : Type 0
TakenMayWantMemory = TooLargeUnless {A = ℕ} true (Err Memory)

-- and one that the rule does not take is too large
abbrev pub NotTakenIsTooLarge : Type 0
NotTakenIsTooLarge = TooLargeUnless {A = ℕ} false (Err TooLarge)

-- with fields of two bytes, a first element of 2 bytes takes 10 steps at most: the 4 bytes of the
-- encoding twice over, and the count
abbrev pub FirstTakesTen : Type 0
FirstTakesTen = most_steps 2 0 0 0 0 (Some 2) ≡ 10

-- an element of 4 bytes before three others in 20 bytes: the 18 bytes after the count move, three
-- starts and the count are written, and 6 bytes come, twice over
abbrev pub FrontTakesThirtyEight : Type 0
FrontTakesThirtyEight = most_steps 2 3 20 0 0 (Some 4) ≡ 38

-- the second of three elements in 20 bytes goes: of the 18 bytes from its start on some move, and
-- one start and the count are written
abbrev pub SecondGoesInTwentyTwo : Type 0
SecondGoesInTwentyTwo = most_steps 2 3 20 1 1 None ≡ 22

-- an only element goes without a step
abbrev pub OnlyGoesInNone : Type 0
OnlyGoesInNone = most_steps 2 1 9 0 1 None ≡ 0
