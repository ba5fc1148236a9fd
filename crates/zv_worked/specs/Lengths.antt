-- Worked lengths of values that are written as a list, at the edges of what a field holds.
use Rattle.std.specs.Prelude.{◌≡◌, ℕ, List, [], ◌∷◌, ◌++◌, length, replicate, Some, None}
use Rattle.std.specs.Prelude.{Bool, true, nat_lt}
use Rattle.zv_var.specs.Serialize.{lengthless_len, serialized_len, with_count}

-- every value has a spelling
abbrev pub always : List ℕ → Bool
always b = true

-- a value is its own spelling
abbrev pub itself : List ℕ → List ℕ
itself b = b

-- the only element has n bytes
abbrev pub one_of : ℕ → List (List ℕ)
one_of n = replicate n 97 ∷ []

-- no values take no bytes without their count
abbrev pub NoneHaveNoLength : Type 0
NoneHaveNoLength = lengthless_len always itself 2 [] ≡ Some 0

-- with fields of one byte, a value may have 254 bytes
abbrev pub OneBelowMost : Type 0
OneBelowMost = lengthless_len always itself 1 (one_of 254) ≡ Some 254

-- and not 255, the most that a field holds
abbrev pub MostIsRefused : Type 0
MostIsRefused = lengthless_len always itself 1 (one_of 255) ≡ None

-- the start of a second value is a byte too: with 200 bytes before, it may have 53
abbrev pub StartsCount : Type 0
StartsCount = lengthless_len always itself 1 (replicate 200 97 ∷ one_of 53) ≡ Some 254

-- and not 54
abbrev pub StartsFill : Type 0
StartsFill = lengthless_len always itself 1 (replicate 200 97 ∷ one_of 54) ≡ None

-- a value with no spelling has no length, whatever the others are
abbrev pub UnfitIsRefused : Type 0
UnfitIsRefused = lengthless_len (λ b. nat_lt 0 (length b)) itself 1 (one_of 3 ++ one_of 0) ≡ None

-- with fields of two bytes, a value may have 65,534 bytes, with the count 65,536
abbrev pub LargestOfTwoBytes : Type 0
LargestOfTwoBytes = serialized_len always itself 2 (one_of 65534) ≡ Some 65536

-- and not one more
abbrev pub TooLargeOfTwoBytes : Type 0
TooLargeOfTwoBytes = serialized_len always itself 2 (one_of 65535) ≡ None

-- no values are a count
abbrev pub CountOfNone : Type 0
CountOfNone = serialized_len always itself 4 [] ≡ Some 4

-- the count of one value stands before its bytes
abbrev pub CountOfOne : Type 0
CountOfOne = serialized_len always itself 4 (one_of 3) ≡ Some 7

-- with the count there are 2^32 - 1 bytes at most
abbrev pub LargestWithCount : Type 0
LargestWithCount = with_count 4 4294967291 ≡ Some 4294967295

-- and not one more, though without the count they would be few enough
abbrev pub TooLargeWithCount : Type 0
TooLargeWithCount = with_count 4 4294967292 ≡ None
