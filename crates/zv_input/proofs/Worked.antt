-- Worked rows of the definitions, computed.
use Rattle.zv_input.proofs.Common.{◌≡◌, ◌∷◌, [], ◌++◌, ℕ, List, refl, codes, Some, None, replicate, map, Get, Put, Del, Row}
use Rattle.zv_input.proofs.Common.{total_size, lines, words, command_of_words, field, key}
use Rattle.std.specs.Str.{is_utf8, chars}
use Rattle.zv_input.specs.Numbers.{number}
use Rattle.hex.specs.Hex.{decode_pairs}
use Rattle.zv_input.specs.declared.commands.TheConstants.{MAX_COMMANDS}

-- what stands first in each row gives what stands second
abbrev Gives : {A B : Type 0} → (A → B) → List (A × B) → Type 0
Gives f rows = map (λ row. f row.0) rows ≡ map (λ row. row.1) rows

-- LF
abbrev lf : List ℕ
lf = 10 ∷ []

-- keys of one letter
abbrev a : List ℕ
a = codes "a"

abbrev b : List ℕ
b = codes "b"

lines_of_inputs : Gives lines ((a ++ lf ++ lf ++ b, a ∷ [] ∷ b ∷ []) ∷ (a ++ lf, a ∷ []) ∷ (lf, [] ∷ []) ∷ ([], []) ∷ [])
lines_of_inputs = refl

words_of_two_spaces : words (codes "get  x") ≡ codes "get" ∷ [] ∷ codes "x" ∷ []
words_of_two_spaces = refl

-- digits in either case, none, an odd number, a wrong one, and no mark
fields : Gives field ((codes "x0aFf", Some (10 ∷ 255 ∷ [])) ∷ (codes "x", Some []) ∷ (codes "x0", None) ∷ (codes "x0g", None) ∷ (codes "00", None) ∷ [])
unfolding decode_pairs
fields = refl

-- two letters, and bytes that are no UTF-8
keys : Gives key ((codes "x6162", Some (codes "ab")) ∷ (codes "xff", None) ∷ [])
unfolding decode_pairs is_utf8 chars lib.Utf8.encode
keys = refl

-- every command, with fields that are empty, and a value that is no UTF-8
command_lines : Gives (λ line. command_of_words (words line)) (
    (codes "get x61 x62", Some (Get a b)) ∷ (codes "get x61 x", Some (Get a [])) ∷ (codes "put x61 x xfF", Some (Put a [] (255 ∷ [])))
    ∷ (codes "del x61 x62", Some (Del a b)) ∷ (codes "row x61", Some (Row a)) ∷ [])
unfolding decode_pairs is_utf8 chars lib.Utf8.encode
command_lines = refl

-- lines that are no commands: an empty one, one with another word, those with a word too few or too many, and those with half a
-- byte, or with bytes for a key that are no UTF-8; two spaces, and a CR
bad_lines : map (λ line. command_of_words (words line)) (
    [] ∷ codes "set x61 x62" ∷ codes "get x61" ∷ codes "put x61 x62" ∷ codes "put x61 x62 x01 x02" ∷ codes "del x61" ∷ codes "row x61 x62"
    ∷ codes "put x61 x62 x0" ∷ codes "get xff x62" ∷ codes "row xff" ∷ codes "get  x61 x62" ∷ (codes "row x61" ++ 13 ∷ []) ∷ []) ≡ replicate 12 None
unfolding decode_pairs is_utf8 chars lib.Utf8.encode
bad_lines = refl

sizes : total_size (Get a (codes "bc") ∷ Get [] [] ∷ Put a [] (1 ∷ 2 ∷ []) ∷ Del [] b ∷ Row (codes "ab") ∷ []) ≡ 14
sizes = refl

limit : MAX_COMMANDS ≡ 16777216
limit = refl

-- none, a leading zero, a sign, the limit and one above it
numbers : Gives (number 4000)
    (([], None) ∷ (codes "0", Some 0) ∷ (codes "00", None) ∷ (codes "+1", None) ∷ (codes "4000", Some 4000) ∷ (codes "4001", None) ∷ [])
numbers = refl
