-- Worked examples of the format and of the frame.
use Rattle.std.specs.Prelude.{◌≡◌, ℕ, List, [], ◌∷◌, ◌++◌, Option, Some, None}
use Rattle.zv_ule.specs.Bytes.{le, number}
use Rattle.zv_ule.specs.Kinds.{one_fault}
use Rattle.zv_ule.specs.declared.error.UleError.{UleError}
use Rattle.zv_ule.specs.declared.error.UleError.TheVariants.{InvalidLength}
use Rattle.zv_ule.specs.declared.error.TyName.TheVariants.{U8}
use Rattle.zv_var.specs.Format.{enc, elements, list_fault}
use Rattle.zv_var.specs.Frame.{framed, first_part}
use Rattle.zv_var.specs.declared.error.VarZeroVecFormatError.TheVariants.{Metadata, Values}

-- the texts "w", "ω", "文" and "𑄃"
abbrev pub four_texts : List (List ℕ)
four_texts = (119 ∷ []) ∷ (207 ∷ 137 ∷ []) ∷ (230 ∷ 150 ∷ 135 ∷ []) ∷
    (240 ∷ 145 ∷ 132 ∷ 131 ∷ []) ∷ []

-- their encoding with fields of two bytes: the count, three starts, and the texts
abbrev pub four_texts_bytes : List ℕ
four_texts_bytes = 4 ∷ 0 ∷ 1 ∷ 0 ∷ 3 ∷ 0 ∷ 6 ∷ 0 ∷ 119 ∷ 207 ∷ 137 ∷ 230 ∷ 150 ∷ 135 ∷ 240 ∷ 145 ∷
    132 ∷ 131 ∷ []

-- the texts "bc" and "a"
abbrev pub two_texts : List (List ℕ)
two_texts = (98 ∷ 99 ∷ []) ∷ (97 ∷ []) ∷ []

-- each byte string is an element
abbrev pub any : List ℕ → Option UleError
any b = None

-- the elements are one byte each
abbrev pub one_byte : List ℕ → Option UleError
one_byte = one_fault U8 1 any

-- the four texts are written so
abbrev pub FourTextsAreEncoded : Type 0
FourTextsAreEncoded = enc 2 four_texts ≡ four_texts_bytes

-- and read again
abbrev pub FourTextsAreRead : Type 0
FourTextsAreRead = elements 2 four_texts_bytes ≡ four_texts

-- with no fault
abbrev pub FourTextsAreSound : Type 0
FourTextsAreSound = list_fault 2 any four_texts_bytes ≡ None

-- two texts with fields of one byte
abbrev pub TwoTextsInOneByteFields : Type 0
TwoTextsInOneByteFields = enc 1 two_texts ≡ 2 ∷ 2 ∷ 98 ∷ 99 ∷ 97 ∷ []

-- with fields of two bytes
abbrev pub TwoTextsInTwoByteFields : Type 0
TwoTextsInTwoByteFields = enc 2 two_texts ≡ 2 ∷ 0 ∷ 2 ∷ 0 ∷ 98 ∷ 99 ∷ 97 ∷ []

-- with fields of four bytes
abbrev pub TwoTextsInFourByteFields : Type 0
TwoTextsInFourByteFields = enc 4 two_texts ≡ 2 ∷ 0 ∷ 0 ∷ 0 ∷ 2 ∷ 0 ∷ 0 ∷ 0 ∷ 98 ∷ 99 ∷ 97 ∷ []

-- the largest number that two bytes hold
abbrev pub LargestOfTwoBytes : Type 0
LargestOfTwoBytes = number (le 2 65535) ≡ 65535

-- no elements take no bytes
abbrev pub NoElementsAreNoBytes : Type 0
NoElementsAreNoBytes = enc 2 [] ≡ []

-- no bytes have no fault
abbrev pub NoBytesAreSound : Type 0
NoBytesAreSound = list_fault 2 any [] ≡ None

-- a count of 0 has no fault, whatever follows
abbrev pub CountOfZeroIsSound : Type 0
CountOfZeroIsSound = list_fault 2 any (0 ∷ 0 ∷ 7 ∷ 7 ∷ 7 ∷ []) ≡ None

-- and is read as no elements
abbrev pub CountOfZeroIsEmpty : Type 0
CountOfZeroIsEmpty = elements 2 (0 ∷ 0 ∷ 7 ∷ 7 ∷ 7 ∷ []) ≡ []

-- a count of one byte where it has two
abbrev pub CutCountIsRefused : Type 0
CutCountIsRefused = list_fault 2 any (1 ∷ []) ≡ Some Metadata

-- a count of 3 and one start
abbrev pub CutStartsAreRefused : Type 0
CutStartsAreRefused = list_fault 2 any (3 ∷ 0 ∷ 1 ∷ 0 ∷ []) ≡ Some Metadata

-- a count of 2 ^ 30 in fields of four bytes: the starts would take nearly 2 ^ 32 bytes
abbrev pub LargeCountIsRefused : Type 0
LargeCountIsRefused = list_fault 4 any (1 ∷ 0 ∷ 0 ∷ 64 ∷ []) ≡ Some Metadata

-- a start past the elements' bytes
abbrev pub StartPastEndIsRefused : Type 0
StartPastEndIsRefused = list_fault 2 any (2 ∷ 0 ∷ 4 ∷ 0 ∷ 98 ∷ 99 ∷ 97 ∷ []) ≡ Some Metadata

-- a start below the one before it
abbrev pub FallingStartIsRefused : Type 0
FallingStartIsRefused = list_fault 1 any (3 ∷ 2 ∷ 1 ∷ 98 ∷ 99 ∷ 97 ∷ []) ≡ Some Metadata

-- a first element of two bytes, where each has one, is named before a second start past the end
abbrev pub EarlierFaultIsNamed : Type 0
EarlierFaultIsNamed = list_fault 1 one_byte (3 ∷ 2 ∷ 9 ∷ 98 ∷ 99 ∷ 97 ∷ []) ≡
    Some (Values (InvalidLength U8 2))

-- a part of two bytes, in its frame
abbrev pub PartIsFramed : Type 0
PartIsFramed = framed (98 ∷ 99 ∷ []) ≡ 2 ∷ 0 ∷ 0 ∷ 0 ∷ 0 ∷ 0 ∷ 0 ∷ 0 ∷ 98 ∷ 99 ∷ []

-- a framed part is taken, and the rest is left
abbrev pub FramedPartIsTaken : Type 0
FramedPartIsTaken = first_part (framed (98 ∷ 99 ∷ []) ++ 97 ∷ []) ≡ Some (98 ∷ 99 ∷ [], 97 ∷ [])

-- seven bytes of a length
abbrev pub CutLengthIsNoPart : Type 0
CutLengthIsNoPart = first_part (0 ∷ 0 ∷ 0 ∷ 0 ∷ 0 ∷ 0 ∷ 0 ∷ []) ≡ None

-- a length of 2 with one byte after it
abbrev pub CutPartIsNoPart : Type 0
CutPartIsNoPart = first_part (2 ∷ 0 ∷ 0 ∷ 0 ∷ 0 ∷ 0 ∷ 0 ∷ 0 ∷ 98 ∷ []) ≡ None
