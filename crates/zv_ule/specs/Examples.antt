-- Worked examples of elements of fixed width.
use Rattle.std.specs.Prelude.{◌≡◌, [], ◌∷◌, Some, None}
use Rattle.std.specs.Int.{w8, w16, cast_unsigned, to_le_bytes}
use Rattle.std.specs.Prelude.{negsuc}
use Rattle.zv_ule.specs.Booleans.{bool_fault}
use Rattle.zv_ule.specs.Chars.{char_bytes, char_fault}
use Rattle.zv_ule.specs.Chunks.{chunks_fault}
use Rattle.zv_ule.specs.NonZero.{non_zero_fault}
use Rattle.zv_ule.specs.Niches.{niche_fault}
use Rattle.zv_ule.specs.Options.{option_fault}
use Rattle.zv_ule.specs.Pairs.{pair_fault}
use Rattle.zv_ule.specs.declared.error.TyName.TheVariants.{Array, Bool as BoolName, Char, NichedOpt}
use Rattle.zv_ule.specs.declared.error.TyName.TheVariants.{Opt, Tuple2}
use Rattle.zv_ule.specs.declared.error.UleError.TheVariants.{InvalidLength, ParseError}

-- U+1F643 takes the bytes 43 f6 01
abbrev pub FaceIsThreeBytes : Type 0
FaceIsThreeBytes = char_bytes 0x1F643 ≡ 0x43 ∷ 0xF6 ∷ 0x01 ∷ []

-- a surrogate is no character, and neither is a number above 0x10FFFF
abbrev pub SurrogateIsRefused : Type 0
SurrogateIsRefused = char_fault (0 ∷ 0xD8 ∷ 0 ∷ []) ≡ Some (ParseError Char)

abbrev pub LastIsTaken : Type 0
LastIsTaken = char_fault (0xFF ∷ 0xFF ∷ 0x10 ∷ []) ≡ None

abbrev pub PastLastIsRefused : Type 0
PastLastIsRefused = char_fault (0 ∷ 0 ∷ 0x11 ∷ []) ≡ Some (ParseError Char)

-- -5 in 8 bits is fb, -2 in 16 bits is fe ff
abbrev pub MinusFive : Type 0
MinusFive = cast_unsigned w8 (negsuc 4) ≡ 0xFB

abbrev pub MinusTwo : Type 0
MinusTwo = to_le_bytes w16 (cast_unsigned w16 (negsuc 1)) ≡ 0xFE ∷ 0xFF ∷ []

-- as options of truth values 01 02 has the inner error, and 02 00 that of the tag; so has 00 05 as
-- an option of u8
abbrev pub InnerError : Type 0
InnerError = chunks_fault Opt 2 (option_fault bool_fault) (1 ∷ 2 ∷ []) ≡ Some (ParseError BoolName)

abbrev pub TagError : Type 0
TagError = chunks_fault Opt 2 (option_fault bool_fault) (2 ∷ 0 ∷ []) ≡ Some (ParseError Opt)

abbrev pub RestError : Type 0
RestError = chunks_fault Opt 2 (option_fault (λ _. None)) (0 ∷ 5 ∷ []) ≡ Some (ParseError Opt)

-- 01 00 are two options of a number other than 0
abbrev pub NicheIsTaken : Type 0
NicheIsTaken = chunks_fault NichedOpt 1 (niche_fault (0 ∷ []) non_zero_fault) (1 ∷ 0 ∷ []) ≡ None

-- six bytes are no arrays of four
abbrev pub SixByFour : Type 0
SixByFour = chunks_fault Array 4 (λ _. None) (1 ∷ 2 ∷ 3 ∷ 4 ∷ 5 ∷ 6 ∷ []) ≡
    Some (InvalidLength Array 6)

-- pairs of a number of four bytes and a character, read the other way round
abbrev pub TurnedPairs : Type 0
TurnedPairs = chunks_fault Tuple2 7 (pair_fault 3 char_fault (λ _. None))
    (1 ∷ 0 ∷ 0 ∷ 0 ∷ 0x61 ∷ 0 ∷ 0 ∷ 0xD5 ∷ 0xD7 ∷ 0x12 ∷ 0 ∷ 0x4A ∷ 0x55 ∷ 0 ∷
    0x64 ∷ 0 ∷ 0 ∷ 0 ∷ 0x05 ∷ 0x09 ∷ 0 ∷ []) ≡ Some (ParseError Char)
