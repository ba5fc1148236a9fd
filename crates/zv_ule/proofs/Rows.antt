-- Worked rows, by computation.
use Rattle.std.proofs.Common.{◌≡◌, [], ◌∷◌, Some, None, Ok, refl, true, false, lit<, map}
use Rattle.std.specs.Fmt.{digits}
use Rattle.std.specs.Int.{w8, w16, w32, w64, w128, to_le_bytes, from_le_bytes, cast_signed, cast_unsigned}
use Rattle.std.specs.List.{flat_map}
use Rattle.std.specs.Ordering.{on, int_cmp, nat_cmp}
use Rattle.std.specs.Prelude.{codes, negsuc}
use Rattle.std.specs.Str.{is_utf8, chars}
use Rattle.std.specs.declared.cmp.Ordering.TheVariants.{Less, Equal, Greater}
use Rattle.zv_ule.specs.Booleans.{bool_fault, bool_value}
use Rattle.zv_ule.specs.Bytes.{le, number}
use Rattle.zv_ule.specs.Chars.{char_bytes, char_code, char_fault}
use Rattle.zv_ule.specs.Chunks.{chunks_fault, chunks_of, first_fault, values_of}
use Rattle.zv_ule.specs.Fixed.{is_width}
use Rattle.zv_ule.specs.Kinds.{one_fault, text_boundary, text_fault}
use Rattle.zv_ule.specs.Messages.{name_text, error_text}
use Rattle.zv_ule.specs.Niches.{niche_fault, niche_value}
use Rattle.zv_ule.specs.NonZero.{non_zero_fault, non_zero_of, non_zero_value}
use Rattle.zv_ule.specs.Options.{option_chunk, option_value}
use Rattle.zv_ule.specs.Pairs.{pair_fault, read_pair}
use Rattle.zv_ule.specs.Search.{Found}
use Rattle.zv_ule.specs.declared.error.TyName.TheVariants.{Array, Bool as BoolName, Char, NichedOpt, NonZeroU8 as NonZeroU8Name}
use Rattle.zv_ule.specs.declared.error.TyName.TheVariants.{RawBytes16, RawBytes4, Str, Tuple2, U8, VarZeroSlice}
use Rattle.zv_ule.specs.declared.error.UleError.TheVariants.{InvalidLength, ParseError}

-- ---- numbers, the lowest byte first

two_written : le 2 258 ≡ 2 ∷ 1 ∷ []
two_written = refl

four_written : le 4 67305985 ≡ 1 ∷ 2 ∷ 3 ∷ 4 ∷ []
four_written = refl

read : map number ((2 ∷ 1 ∷ []) ∷ (255 ∷ 255 ∷ []) ∷ [] ∷ []) ≡ 258 ∷ 65535 ∷ 0 ∷ []
read = refl

two_bytes : to_le_bytes w16 1500 ≡ 220 ∷ 5 ∷ []
two_bytes = refl

eight_bytes : to_le_bytes w64 72623859790382856 ≡ 8 ∷ 7 ∷ 6 ∷ 5 ∷ 4 ∷ 3 ∷ 2 ∷ 1 ∷ []
eight_bytes = refl

largest_of_eight : from_le_bytes w64 (255 ∷ 255 ∷ 255 ∷ 255 ∷ 255 ∷ 255 ∷ 255 ∷ 255 ∷ []) ≡ 18446744073709551615
largest_of_eight = refl

-- 2 ^ 64
sixteen_bytes : to_le_bytes w128 18446744073709551616 ≡ 0 ∷ 0 ∷ 0 ∷ 0 ∷ 0 ∷ 0 ∷ 0 ∷ 0 ∷ 1 ∷ 0 ∷ 0 ∷ 0 ∷ 0 ∷ 0 ∷ 0 ∷ 0 ∷ []
sixteen_bytes = refl

fifteen_bytes : one_fault RawBytes16 16 (λ _. None) (0 ∷ 0 ∷ 0 ∷ 0 ∷ 0 ∷ 0 ∷ 0 ∷ 0 ∷ 1 ∷ 0 ∷ 0 ∷ 0 ∷ 0 ∷ 0 ∷ 0 ∷ []) ≡ Some (InvalidLength RawBytes16 15)
fifteen_bytes = refl

minus_127 : cast_signed w8 129 ≡ negsuc 126
minus_127 = refl

-- -2 in four bytes
minus_two : to_le_bytes w32 (cast_unsigned w32 (negsuc 1)) ≡ 254 ∷ 255 ∷ 255 ∷ 255 ∷ []
minus_two = refl

-- -1 is less than 1, though its bytes are those of a larger number
signed_order : on (λ b. cast_signed w32 (from_le_bytes w32 b)) int_cmp (255 ∷ 255 ∷ 255 ∷ 255 ∷ []) (1 ∷ 0 ∷ 0 ∷ 0 ∷ []) ≡ Less
signed_order = refl

-- 1 is less than 256, though its first byte is larger
number_order : on (λ b. from_le_bytes w16 b) nat_cmp (1 ∷ 0 ∷ []) (0 ∷ 1 ∷ []) ≡ Less
number_order = refl

-- ---- lists of u32

lists : map (chunks_fault RawBytes4 4 (λ _. None)) ([] ∷ (1 ∷ 0 ∷ 0 ∷ 0 ∷ []) ∷ (1 ∷ 0 ∷ 0 ∷ 0 ∷ 7 ∷ []) ∷ []) ≡
    None ∷ None ∷ Some (InvalidLength RawBytes4 5) ∷ []
lists = refl

two_numbers : values_of 4 (λ b. from_le_bytes w32 b) (1 ∷ 0 ∷ 0 ∷ 0 ∷ 0 ∷ 1 ∷ 0 ∷ 0 ∷ []) ≡ 1 ∷ 256 ∷ []
two_numbers = refl

-- the first bad chunk is named, here the second of three
second_bad : chunks_fault U8 1 text_fault (97 ∷ 255 ∷ 98 ∷ []) ≡ Some (ParseError Str)
unfolding is_utf8 chars lib.Utf8.encode
second_bad = refl

-- one number is four bytes, and no list of them
elements : map (one_fault RawBytes4 4 (λ _. None)) ((1 ∷ 0 ∷ 0 ∷ 0 ∷ []) ∷ (1 ∷ 0 ∷ 0 ∷ 0 ∷ 0 ∷ 1 ∷ 0 ∷ 0 ∷ []) ∷ []) ≡
    None ∷ Some (InvalidLength RawBytes4 8) ∷ []
elements = refl

widths : map is_width (0 ∷ 4294967296 ∷ []) ≡ false ∷ false ∷ []
widths = refl

-- ---- truth values, numbers other than 0 and characters

truth_values : values_of 1 bool_value (0 ∷ 1 ∷ []) ≡ false ∷ true ∷ []
truth_values = refl

two : chunks_fault BoolName 1 bool_fault (1 ∷ 2 ∷ []) ≡ Some (ParseError BoolName)
two = refl

non_zero : map (one_fault NonZeroU8Name 1 non_zero_fault) ((1 ∷ []) ∷ (0 ∷ []) ∷ []) ≡ None ∷ Some (ParseError NonZeroU8Name) ∷ []
non_zero = refl

characters : flat_map char_bytes (codes "wω文𑄃🙃") ≡ 119 ∷ 0 ∷ 0 ∷ 201 ∷ 3 ∷ 0 ∷ 135 ∷ 101 ∷ 0 ∷ 3 ∷ 17 ∷ 1 ∷ 67 ∷ 246 ∷ 1 ∷ []
characters = refl

read_character : char_code (67 ∷ 246 ∷ 1 ∷ []) ≡ 128579
read_character = refl

good_character : char_fault (67 ∷ 246 ∷ 1 ∷ []) ≡ None
good_character = refl

-- ---- tuples

-- (1, 'a'), (1234901, '啊'), (100, 'अ')
three_pairs : values_of 7 (read_pair 4 (from_le_bytes w32) char_code)
    (1 ∷ 0 ∷ 0 ∷ 0 ∷ 97 ∷ 0 ∷ 0 ∷ 213 ∷ 215 ∷ 18 ∷ 0 ∷ 74 ∷ 85 ∷ 0 ∷ 100 ∷ 0 ∷ 0 ∷ 0 ∷ 5 ∷ 9 ∷ 0 ∷ [])
    ≡ (1, 97) ∷ (1234901, 21834) ∷ (100, 2309) ∷ []
three_pairs = refl

pairs : map (chunks_fault Tuple2 7 (pair_fault 4 (λ _. None) char_fault))
    ((1 ∷ 0 ∷ 0 ∷ 0 ∷ 97 ∷ 0 ∷ 0 ∷ 213 ∷ 215 ∷ 18 ∷ 0 ∷ 74 ∷ 85 ∷ 0 ∷ 100 ∷ 0 ∷ 0 ∷ 0 ∷ 5 ∷ 9 ∷ 0 ∷ []) ∷ (1 ∷ 0 ∷ 0 ∷ 0 ∷ 97 ∷ 0 ∷ []) ∷ [])
    ≡ None ∷ Some (InvalidLength Tuple2 6) ∷ []
pairs = refl

-- of two bad parts the first is named
first_part : pair_fault 1 bool_fault non_zero_fault (2 ∷ 0 ∷ []) ≡ Some (ParseError BoolName)
first_part = refl

second_part : pair_fault 1 bool_fault (pair_fault 1 non_zero_fault bool_fault) (1 ∷ 0 ∷ 2 ∷ []) ≡ Some (ParseError NonZeroU8Name)
second_part = refl

three_parts : read_pair 1 (λ b. b) (read_pair 2 (λ b. b) (λ b. b)) (1 ∷ 2 ∷ 3 ∷ 4 ∷ []) ≡ (1 ∷ [], (2 ∷ 3 ∷ [], 4 ∷ []))
three_parts = refl

-- ---- options

stored_options : map (option_chunk 2 (λ b. b)) (Some (7 ∷ 0 ∷ []) ∷ None ∷ []) ≡ (1 ∷ 7 ∷ 0 ∷ []) ∷ (0 ∷ 0 ∷ 0 ∷ []) ∷ []
stored_options = refl

read_none : option_value (λ b. b) (0 ∷ 0 ∷ 0 ∷ []) ≡ None
read_none = refl

-- with no tag: one is some 1, and 0 is none
niches : values_of 1 (niche_value (0 ∷ []) non_zero_value) (1 ∷ 0 ∷ []) ≡ Some (non_zero_of 1) ∷ None ∷ []
niches = refl

no_niche : one_fault NichedOpt 1 (niche_fault (0 ∷ []) non_zero_fault) [] ≡ Some (InvalidLength NichedOpt 0)
no_niche = refl

-- ---- arrays

-- six bytes as arrays of so many
six_bytes : map (λ n. chunks_fault Array n (λ _. None) (1 ∷ 2 ∷ 3 ∷ 4 ∷ 5 ∷ 6 ∷ [])) (2 ∷ 3 ∷ 5 ∷ 6 ∷ 7 ∷ []) ≡
    None ∷ None ∷ Some (InvalidLength Array 6) ∷ None ∷ Some (InvalidLength Array 6) ∷ []
six_bytes = refl

-- the last of two characters is a surrogate
bad_element : one_fault Array 6 (λ b. first_fault char_fault (chunks_of 3 b)) (97 ∷ 0 ∷ 0 ∷ 0 ∷ 216 ∷ 0 ∷ []) ≡ Some (ParseError Char)
bad_element = refl

two_characters : values_of 3 char_code (97 ∷ 0 ∷ 0 ∷ 74 ∷ 85 ∷ 0 ∷ []) ≡ 97 ∷ 21834 ∷ []
two_characters = refl

-- ---- texts

-- a letter; a byte of no character; a character of three bytes, whole and cut; the second half of a surrogate pair
texts : map text_fault ((97 ∷ []) ∷ (255 ∷ []) ∷ (230 ∷ 150 ∷ 135 ∷ []) ∷ (230 ∷ 150 ∷ []) ∷ (237 ∷ 176 ∷ 128 ∷ []) ∷ []) ≡
    None ∷ Some (ParseError Str) ∷ None ∷ Some (ParseError Str) ∷ Some (ParseError Str) ∷ []
unfolding is_utf8 chars lib.Utf8.encode
texts = refl

-- before a character, and inside it
boundaries : map (text_boundary (97 ∷ 207 ∷ 137 ∷ [])) (1 ∷ 2 ∷ []) ≡ true ∷ false ∷ []
boundaries = refl

-- ---- searches

hit : Found (Less ∷ Equal ∷ Greater ∷ []) (Ok 1)
hit = record { within = lit< tt; equal = refl }

-- ---- messages

name : name_text RawBytes4 ≡ codes "RawBytes4"
name = refl

messages : map error_text (InvalidLength RawBytes4 5 ∷ ParseError VarZeroSlice ∷ []) ≡
    codes "Invalid length 5 for slice of type RawBytes4" ∷ codes "Could not parse bytes to slice of type VarZeroSlice" ∷ []
unfolding digits
messages = refl
