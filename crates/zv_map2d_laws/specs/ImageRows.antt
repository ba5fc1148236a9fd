-- Worked images, each part as its bytes.
use Rattle.std.specs.Prelude.{◌≡◌, ℕ, List, [], ◌∷◌, ◌++◌, flat_map, length, map, take, replicate}
use Rattle.std.specs.Prelude.{Option, Some, None}
use Rattle.std.specs.List.{range_with_len}
use Rattle.zv_ule.specs.Bytes.{le}
use Rattle.zv_map2d.specs.Rows.{Rows, find}
use Rattle.zv_map2d.specs.Causes.{Reading, readings, read_fault}
use Rattle.zv_map2d.specs.Frame.{frame}
use Rattle.zv_map2d.specs.Image.{by_bytes, fault, canon}
use Rattle.zv_map2d.specs.declared.error.EditError.{EditError}
use Rattle.zv_ule.specs.declared.error.UleError.{UleError}
use Rattle.zv_ule.specs.declared.error.TyName.{TyName}

-- n bytes of 0
abbrev pub zeros : ℕ → List ℕ
zeros n = replicate n 0

-- the image of four parts, the joiner with these ends
abbrev pub image_of : List ℕ → List ℕ → List ℕ → List ℕ → List ℕ
image_of a ns c d = frame (record { keys0 = a; joiner = flat_map (le 4) ns; keys1 = c; values = d })

-- why it is refused
abbrev pub why : List ℕ → List ℕ → List ℕ → List ℕ → Option EditError
why a ns c d = fault (image_of a ns c d)

-- the spelling of a list of one element that is one byte, of two, and of three
abbrev pub one : ℕ → List ℕ
one x = 1 ∷ 0 ∷ x ∷ []

abbrev pub two : ℕ → ℕ → List ℕ
two x y = 2 ∷ 0 ∷ 1 ∷ 0 ∷ x ∷ y ∷ []

abbrev pub three : ℕ → ℕ → ℕ → List ℕ
three x y z = 3 ∷ 0 ∷ 1 ∷ 0 ∷ 2 ∷ 0 ∷ x ∷ y ∷ z ∷ []

-- the map of one pair, and its image
abbrev pub ab : Rows
ab = (97 ∷ [], (98 ∷ [], 1 ∷ []) ∷ []) ∷ []

abbrev pub AB : List ℕ
AB = 3 ∷ zeros 7 ++ (1 ∷ 0 ∷ 97 ∷ 4 ∷ zeros 7 ++ (1 ∷ 0 ∷ 0 ∷ 0
    ∷ 3 ∷ zeros 7 ++ (1 ∷ 0 ∷ 98 ∷ 3 ∷ zeros 7 ++ (1 ∷ 0 ∷ 1 ∷ []))))

-- the cause of a part that is no list
abbrev pub parse_error : Option EditError
parse_error = Some (EditError.Ule (UleError.ParseError TyName.VarZeroSlice))

-- the cause of a joiner of n bytes that are no numbers
abbrev pub no_numbers : ℕ → Option EditError
no_numbers n = Some (EditError.Ule (UleError.InvalidLength TyName.RawBytes4 n))

-- the empty map
abbrev pub Empty : Type 0
Empty = (fault (zeros 32) ≡ None) × (canon [] ≡ zeros 32)

-- one pair: its image is its parts, each after its length
abbrev pub OnePair : Type 0
OnePair = (fault AB ≡ None) × (canon ab ≡ AB)
    × (image_of (one 97) (1 ∷ []) (one 98) (one 1) ≡ AB)

-- empty parts in their other spelling, each alone and all at once, and with bytes after the count
abbrev pub OtherSpellings : Type 0
OtherSpellings = (why (zeros 2) [] [] [] ≡ None) × (why [] [] (zeros 2) [] ≡ None)
    × (why [] [] [] (zeros 2) ≡ None) × (why (zeros 2) [] (zeros 2) (zeros 2) ≡ None)
    × (why (0 ∷ 0 ∷ 7 ∷ []) [] [] [] ≡ None) × (fault (4 ∷ zeros 35) ≡ None)

-- the map of two rows of one pair each
abbrev pub two_rows : Rows
two_rows = (97 ∷ [], (122 ∷ [], 1 ∷ []) ∷ []) ∷ (98 ∷ [], (97 ∷ [], 2 ∷ []) ∷ []) ∷ []

-- its image, and second keys that fall within one row
abbrev pub TwoRows : Type 0
TwoRows = (why (two 97 98) (1 ∷ 2 ∷ []) (two 122 97) (two 1 2) ≡ None)
    × (canon two_rows ≡ image_of (two 97 98) (1 ∷ 2 ∷ []) (two 122 97) (two 1 2))
    × (why (one 97) (2 ∷ []) (two 122 97) (two 1 2) ≡ Some EditError.KeyOrder)

-- a byte too few, a byte too many, and a length that is more than is left
abbrev pub NoFrame : Type 0
NoFrame = (fault (zeros 31) ≡ Some EditError.Frame) × (fault (zeros 33) ≡ Some EditError.Frame)
    × (fault (replicate 7 255 ++ (254 ∷ zeros 24)) ≡ Some EditError.Frame)

-- a joiner of three bytes and bad keys; bad keys alone
abbrev pub Lengths : Type 0
Lengths = (fault (1 ∷ zeros 7 ++ (5 ∷ 3 ∷ zeros 7 ++ (1 ∷ 0 ∷ 0 ∷ zeros 16))) ≡ no_numbers 3)
    × (fault (1 ∷ zeros 7 ++ (5 ∷ zeros 24)) ≡ parse_error)

-- ends that aren't the count of the second keys, or don't ascend
abbrev pub Ends : Type 0
Ends = (why [] [] (one 98) (one 1) ≡ Some EditError.JoinerEnd)
    × (why (two 97 98) (0 ∷ 1 ∷ []) (one 98) (one 1) ≡ Some EditError.JoinerOrder)

-- a first or second key that is no text, and a value that is none, which is fine; keys and values
-- that are empty
abbrev pub Texts : Type 0
Texts = (why (one 255) (1 ∷ []) (one 98) (one 1) ≡ parse_error)
    × (why (one 97) (1 ∷ []) (one 255) (one 1) ≡ parse_error)
    × (why (one 97) (1 ∷ []) (one 98) (one 255) ≡ None)
    × (canon (([], ([], []) ∷ []) ∷ []) ≡ 2 ∷ zeros 7 ++ (1 ∷ 0 ∷ 4 ∷ zeros 7 ++ (1 ∷ 0 ∷ 0 ∷ 0
    ∷ 2 ∷ zeros 7 ++ (1 ∷ 0 ∷ 2 ∷ zeros 7 ++ (1 ∷ 0 ∷ [])))))

-- as many ends as first keys, and as many values as second keys, but for one
abbrev pub Counts : Type 0
Counts = (why [] (1 ∷ []) (one 98) (one 1) ≡ Some EditError.Keys0Joiner)
    × (why (one 97) (1 ∷ []) (one 98) [] ≡ Some EditError.Keys1Values)

-- images for which two neighbouring causes hold
abbrev pub Neighbours : Type 0
Neighbours = (why (one 255) [] (one 98) (one 1) ≡ parse_error)
    × (why [] (1 ∷ []) (one 98) [] ≡ Some EditError.Keys0Joiner)
    × (why (one 97) (0 ∷ []) (one 98) [] ≡ Some EditError.Keys1Values)
    × (why (one 97) (0 ∷ []) (one 98) (one 1) ≡ Some EditError.JoinerOrder)
    × (why (two 98 97) (1 ∷ 2 ∷ []) (three 97 98 99) (three 1 2 3) ≡ Some EditError.JoinerEnd)
    × (why (two 98 97) (1 ∷ 2 ∷ []) (two 120 120) (two 1 2) ≡ Some EditError.KeyOrder)

-- how a container reads that has this answer for whatever bytes, and finds no element in them
abbrev pub answers : Option UleError → Reading
answers error = record { fault = λ b. error; list = λ b. [] }

-- an error that tells n
abbrev pub wrong : ℕ → UleError
wrong n = UleError.InvalidLength TyName.U8 n

-- what parts are refused for, by the errors of the first keys, the second keys and the values
abbrev pub refused_for : List ℕ → Option UleError → Option UleError → Option UleError →
    Option EditError
refused_for joiner e0 e1 e2 =
    read_fault (readings (answers e0) (answers e1) (answers e2) by_bytes by_bytes)
    (record { keys0 = []; joiner = joiner; keys1 = []; values = [] })

-- a part's own error: the joiner's, then the first keys', then the second keys', then the values'
abbrev pub OwnErrors : Type 0
OwnErrors = (refused_for (zeros 3) (Some (wrong 0)) None None ≡ no_numbers 3)
    × (refused_for [] (Some (wrong 0)) (Some (wrong 1)) None ≡ Some (EditError.Ule (wrong 0)))
    × (refused_for [] None (Some (wrong 1)) (Some (wrong 2)) ≡ Some (EditError.Ule (wrong 1)))
    × (refused_for (zeros 4) None None (Some (wrong 2)) ≡ Some (EditError.Ule (wrong 2)))
    × (refused_for [] None None None ≡ None)

-- each proper prefix of an image is no frame
abbrev pub Prefixes : Type 0
Prefixes = (length AB ≡ 45)
    × (map (λ n. fault (take n AB)) (range_with_len 0 45) ≡ replicate 45 (Some EditError.Frame))

-- each cause alone
abbrev pub Alone : Type 0
Alone = (fault (3 ∷ zeros 7 ++ (one 97 ++ (5 ∷ zeros 7 ++ (1 ∷ 0 ∷ 0 ∷ 0 ∷ 7
    ∷ 3 ∷ zeros 7 ++ (one 98 ++ (3 ∷ zeros 7 ++ one 1)))))) ≡ no_numbers 5)
    × (why (one 97) (1 ∷ []) (1 ∷ []) (one 1) ≡ parse_error)
    × (why (two 97 98) (1 ∷ []) (one 98) (one 1) ≡ Some EditError.Keys0Joiner)
    × (why (one 97) (1 ∷ []) (one 98) (two 1 2) ≡ Some EditError.Keys1Values)
    × (why (two 97 98) (1 ∷ 1 ∷ []) (one 98) (one 1) ≡ Some EditError.JoinerOrder)
    × (why (one 97) (2 ∷ []) (one 98) (one 1) ≡ Some EditError.JoinerEnd)
    × (why (two 97 97) (1 ∷ 2 ∷ []) (two 120 120) (two 1 2) ≡ Some EditError.KeyOrder)

-- the value of a pair of keys, each a byte: there, and with the second key, or the first key, of
-- another row
abbrev pub Finds : Type 0
Finds = (find by_bytes by_bytes two_rows (97 ∷ []) (122 ∷ []) ≡ Some (1 ∷ []))
    × (find by_bytes by_bytes two_rows (98 ∷ []) (97 ∷ []) ≡ Some (2 ∷ []))
    × (find by_bytes by_bytes two_rows (97 ∷ []) (97 ∷ []) ≡ None)
    × (find by_bytes by_bytes two_rows (98 ∷ []) (122 ∷ []) ≡ None)
    × (find by_bytes by_bytes two_rows [] (122 ∷ []) ≡ None)
