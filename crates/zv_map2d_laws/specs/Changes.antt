-- Worked changes of small maps, whose keys and values are texts.
use Prim.Native.String.{String}
use Rattle.std.specs.Prelude.{◌≡◌, true, false, Bool, List, [], ◌∷◌, replicate, codes}
use Rattle.zv_map2d.specs.Keys.{Bytes}
use Rattle.zv_map2d.specs.Rows.{Rows, put, del, ends, shift_from}
use Rattle.zv_map2d.specs.Image.{by_bytes}
use Rattle.zv_map2d.specs.Fits.{Rule, place, fits, fits_texts, fits_texts_in}

-- a row of these pairs
abbrev pub row : String → List (Bytes × Bytes) → Bytes × List (Bytes × Bytes)
row k ps = (codes k, ps)

-- a pair
abbrev pub pair : String → String → Bytes × Bytes
pair k v = (codes k, codes v)

-- v for the pair of keys
abbrev pub with_texts : Rows → String → String → String → Rows
with_texts m k0 k1 v = put by_bytes by_bytes m (codes k0) (codes k1) (codes v)

-- without the pair of keys
abbrev pub without_texts : Rows → String → String → Rows
without_texts m k0 k1 = del by_bytes by_bytes m (codes k0) (codes k1)

-- two rows: of b and c with one pair, and of d with two
abbrev pub two_rows : Rows
two_rows = row "b" (pair "c" "1" ∷ []) ∷ row "d" (pair "a" "2" ∷ pair "c" "3" ∷ []) ∷ []

-- into the empty map
abbrev pub FirstPair : Type 0
FirstPair = with_texts [] "b" "c" "1" ≡ row "b" (pair "c" "1" ∷ []) ∷ []

-- a new row before the others, whose pairs then stand one place on
abbrev pub NewFirstRow : Type 0
NewFirstRow = (with_texts two_rows "a" "x" "9" ≡ row "a" (pair "x" "9" ∷ []) ∷ two_rows)
    × (ends two_rows ≡ 1 ∷ 3 ∷ [])
    × (ends (with_texts two_rows "a" "x" "9") ≡ shift_from 1 0 0 (0 ∷ 1 ∷ 3 ∷ []))

-- a new pair between the others of its row
abbrev pub NewPair : Type 0
NewPair = (with_texts two_rows "d" "b" "9" ≡ row "b" (pair "c" "1" ∷ [])
    ∷ row "d" (pair "a" "2" ∷ pair "b" "9" ∷ pair "c" "3" ∷ []) ∷ [])
    × (ends (with_texts two_rows "d" "b" "9") ≡ 1 ∷ 4 ∷ [])
    × (shift_from 1 0 1 (ends two_rows) ≡ 1 ∷ 4 ∷ [])
    × (place by_bytes by_bytes two_rows (codes "d") (codes "b") ≡ 2)

-- another value for a pair that is there
abbrev pub OtherValue : Type 0
OtherValue = (with_texts two_rows "b" "c" "9"
    ≡ row "b" (pair "c" "9" ∷ []) ∷ row "d" (pair "a" "2" ∷ pair "c" "3" ∷ []) ∷ [])
    × (ends (with_texts two_rows "b" "c" "9") ≡ ends two_rows)

-- one of two pairs of a row leaves the row
abbrev pub OneOfTwo : Type 0
OneOfTwo = (without_texts two_rows "d" "a"
    ≡ row "b" (pair "c" "1" ∷ []) ∷ row "d" (pair "c" "3" ∷ []) ∷ [])
    × (ends (without_texts two_rows "d" "a") ≡ shift_from 0 1 1 (ends two_rows))

-- the only pair of a row takes the row with it
abbrev pub OnlyPair : Type 0
OnlyPair = (without_texts two_rows "b" "c" ≡ row "d" (pair "a" "2" ∷ pair "c" "3" ∷ []) ∷ [])
    × (ends (without_texts two_rows "b" "c") ≡ 2 ∷ [])
    × (shift_from 0 1 0 (ends two_rows) ≡ 0 ∷ 2 ∷ [])

-- a pair or a row that is missing leaves the map
abbrev pub MissingPair : Type 0
MissingPair = (without_texts two_rows "d" "b" ≡ two_rows)
    × (without_texts two_rows "a" "c" ≡ two_rows)

-- the map of one pair, whose value has 10 bytes
abbrev pub ten : Rows
ten = row "b" ((codes "c", replicate 10 0) ∷ []) ∷ []

-- with fields of two bytes a value has at most 65,534 bytes, and one of 10 bytes gives way to one
-- of 65,533 in a list of its own; with fields of four bytes there is room for them
abbrev pub LongValues : Type 0
LongValues = (fits_texts_in 2 [] (codes "b") (codes "c") (replicate 65534 0) ≡ true)
    × (fits_texts_in 2 [] (codes "b") (codes "c") (replicate 65535 0) ≡ false)
    × (fits_texts_in 2 ten (codes "b") (codes "c") (replicate 65533 0) ≡ true)
    × (fits_texts_in 2 ten (codes "b") (codes "c") (replicate 65534 0) ≡ false)
    × (fits_texts [] (codes "b") (codes "c") (replicate 65535 0) ≡ true)
    × (fits_texts ten (codes "b") (codes "c") (replicate 65534 0) ≡ true)

-- size rules that take another value for a pair, no first key, and maybe a second key
abbrev pub no_first_keys : Bool → Rule
no_first_keys second = record {
  takes0 = λ xs n. false;
  takes1 = λ xs n. second;
  takes2 = λ xs n. true;
  replaces = λ xs i n. true;
}

-- whether the value 9 fits in the two rows, by these rules
abbrev pub nine_fits : Bool → String → String → Bool
nine_fits second k0 k1 =
    fits (no_first_keys second) by_bytes by_bytes two_rows (codes k0) (codes k1) (codes "9")

-- a key that is there is not measured
abbrev pub KeysThere : Type 0
KeysThere = (nine_fits false "b" "c" ≡ true) × (nine_fits false "b" "d" ≡ false)
    × (nine_fits true "b" "d" ≡ true) × (nine_fits true "a" "x" ≡ false)
