-- Worked images with heads.
use Rattle.std.specs.Prelude.{◌≡◌, ℕ, Bool, true, false, List, [], ◌∷◌, ◌++◌, length, map, take}
use Rattle.std.specs.Prelude.{replicate, Option, Some, None}
use Rattle.std.specs.List.{range_with_len}
use Rattle.zv_map2d.specs.Formats.{head, mark, narrow}
use Rattle.zv_map2d.specs.Frame.{frame}
use Rattle.zv_map2d.specs.Image.{canon, fault, spelling_in}
use Rattle.zv_map2d.specs.Rows.{Rows}
use Rattle.zv_map2d.specs.declared.error.EditError.{EditError}
use Rattle.zv_map2d.specs.declared.image.WideLists.{WideLists}
use Rattle.zv_map2d_laws.specs.ImageRows.{AB, ab, parse_error, zeros}

abbrev pub wides : Bool → Bool → Bool → WideLists
wides a b c = record { keys0 = a; keys1 = b; values = c }

-- the eight choices of wide lists
abbrev pub choices : List WideLists
choices = narrow ∷ wides true false false ∷ wides false true false ∷ wides true true false
    ∷ wides false false true ∷ wides true false true ∷ wides false true true
    ∷ wides true true true ∷ []

-- the image of the map with a head that names these
abbrev pub headed : WideLists → Rows → List ℕ
headed w m = head w ++ frame (spelling_in w m)

-- the image of one pair whose second keys are wide
abbrev pub wide_ab : List ℕ
wide_ab = mark ++ (16 ∷ 32 ∷ 16 ∷ 3 ∷ zeros 7 ++ (1 ∷ 0 ∷ 97 ∷ 4 ∷ zeros 7 ++ (1 ∷ 0 ∷ 0 ∷ 0
    ∷ 5 ∷ zeros 7 ++ (1 ∷ 0 ∷ 0 ∷ 0 ∷ 98 ∷ 3 ∷ zeros 7 ++ (1 ∷ 0 ∷ 1 ∷ [])))))

-- heads are read, also one that names no wide list, and images without one as they were
abbrev pub Heads : Type 0
Heads = (headed (wides false true false) ab ≡ wide_ab) × (fault (head narrow ++ zeros 32) ≡ None)
    × (fault (head narrow ++ AB) ≡ None)
    × (map (λ w. fault (headed w ab)) choices ≡ replicate 8 None)

-- a head that is cut after any byte
abbrev pub CutHeads : Type 0
CutHeads = (length wide_ab ≡ 58)
    × (map (λ n. fault (take n wide_ab)) (range_with_len 0 58)
    ≡ replicate 58 (Some EditError.Frame))

-- what a head is answered that names n for one of the lists, and no pairs follow, for each n
abbrev pub each_name : (ℕ → List ℕ) → List (Option EditError)
each_name names = map (λ n. fault (mark ++ (names n ++ zeros 32))) (range_with_len 0 256)

-- two numbers of 256 name formats
abbrev pub named : List (Option EditError)
named = replicate 16 (Some EditError.Frame) ++ (None ∷ replicate 15 (Some EditError.Frame)
    ++ (None ∷ replicate 223 (Some EditError.Frame)))

abbrev pub Names : Type 0
Names = (each_name (λ n. n ∷ 16 ∷ 16 ∷ []) ≡ named) × (each_name (λ n. 32 ∷ n ∷ 16 ∷ []) ≡ named)
    × (each_name (λ n. 16 ∷ 16 ∷ n ∷ []) ≡ named)

-- lists are read in the formats that are named: two bytes are no wide list, nor is a narrow one
abbrev pub WideErrors : Type 0
WideErrors = (fault (head (wides true false false) ++ (2 ∷ zeros 33)) ≡ parse_error)
    × (map (λ w. fault (head w ++ AB)) choices ≡ None ∷ replicate 7 parse_error)

-- the map of one pair whose value has n bytes
abbrev pub long_value : ℕ → Rows
long_value n = (97 ∷ [], (98 ∷ [], replicate n 0) ∷ []) ∷ []

-- the canonical image names a list wide exactly where fields of two bytes would make it longer than
-- 65,535 bytes
abbrev pub WideCanon : Type 0
WideCanon = (length (canon (long_value 65533)) ≡ 65577)
    × (take 8 (canon (long_value 65533)) ≡ 3 ∷ zeros 7)
    × (length (canon (long_value 65534)) ≡ 65591)
    × (take 11 (canon (long_value 65534)) ≡ head (wides false false true))
