-- Worked rows of the definitions, computed.
use Rattle.zv_edit.proofs.Common.{◌≡◌, ◌∷◌, [], ◌++◌, ℕ, List, Ok, Err, length, refl, codes, replicate, map, canon, Rows, Command, Get, Put, Del, Row}
use Rattle.zv_edit.proofs.Common.{answers, last, reply_lines, replies, some, pairs, missing, added, old, too_large, text, ends, with_command}
use Rattle.std.specs.Str.{is_utf8, chars}
use Rattle.hex.specs.Hex.{decode_pairs, encode_with}
use Rattle.zv_map2d_laws.specs.Locales.{locales}
use Rattle.zv_command.specs.Inputs.{request_of, with_no_line}
use Rattle.zv_edit.specs.declared.look.Look.{Look}

-- what stands first in each row gives what stands second
abbrev Gives : {A B : Type 0} → (A → B) → List (A × B) → Type 0
Gives f rows = map (λ row. f row.0) rows ≡ map (λ row. row.1) rows

-- LF
abbrev lf : List ℕ
lf = 10 ∷ []

-- keys of one letter
abbrev a : List ℕ
a = codes "a"

abbrev b : List ℕ
b = codes "b"

abbrev c : List ℕ
c = codes "c"

-- ---- output

reply_texts : Gives text (
    (some (1 ∷ 171 ∷ []), codes "some x01ab" ++ lf) ∷ (missing, codes "none" ++ lf) ∷ (added, codes "new" ++ lf) ∷ (old [], codes "old x" ++ lf)
    ∷ (too_large, codes "toolarge" ++ lf) ∷ (pairs ((b, 2 ∷ []) ∷ ([], []) ∷ []), codes "row x62 x02 x x" ++ lf) ∷ [])
unfolding encode_with
reply_texts = refl

-- ---- inputs

-- an image; a look-up; a last line without LF; every command, and a value that is no UTF-8; nothing; two spaces on line 3; a CR
inputs : Gives (request_of with_command []) (
    (codes "x00ff" ++ lf, Ok (0 ∷ 255 ∷ [], []))
    ∷ (codes "x00" ++ lf ++ codes "get x61 x62" ++ lf, Ok (0 ∷ [], Get a b ∷ []))
    ∷ (codes "x00" ++ lf ++ codes "get x61 x", Ok (0 ∷ [], Get a [] ∷ []))
    ∷ (
      codes "x00" ++ lf ++ codes "put x61 x xfF" ++ lf ++ codes "del x61 x62" ++ lf ++ codes "row x61" ++ lf,
      Ok (0 ∷ [], Put a [] (255 ∷ []) ∷ Del a b ∷ Row a ∷ []),
    )
    ∷ ([], Err 1)
    ∷ (codes "x00" ++ lf ++ codes "get x61 x62" ++ lf ++ codes "get  x61 x62" ++ lf, Err 3)
    ∷ (codes "x00" ++ 13 ∷ lf, Err 1)
    ∷ [])
unfolding request_of decode_pairs is_utf8 chars lib.Utf8.encode
inputs = refl

-- a second line that is no command is bad, and for a look-up any second line is
bad_second_lines : request_of with_command [] (codes "x00" ++ lf ++ codes "row xff") ∷ [] ≡ Err 2 ∷ []
unfolding request_of decode_pairs is_utf8 chars lib.Utf8.encode
bad_second_lines = refl

look_inputs : (look : Look) → map (request_of with_no_line look) (
    (codes "x00ff" ++ lf) ∷ codes "x" ∷ [] ∷ (codes "x0" ++ lf) ∷ (codes "x00" ++ lf ++ lf) ∷ (codes "x00" ++ lf ++ codes "get x61 x62" ++ lf) ∷ [])
    ≡ Ok (0 ∷ 255 ∷ [], look) ∷ Ok ([], look) ∷ Err 1 ∷ Err 1 ∷ Err 2 ∷ Err 2 ∷ []
unfolding request_of decode_pairs
look_inputs look = refl

-- ---- whole answers

-- the map of one pair
abbrev ab : Rows
ab = (a, (b, 1 ∷ []) ∷ []) ∷ []

-- two rows of one pair
abbrev two_rows : Rows
two_rows = (a, (codes "z", 1 ∷ []) ∷ []) ∷ (b, (a, 2 ∷ []) ∷ []) ∷ []

-- of no commands; a first pair; another value; a pair that is removed twice; a row; empty fields
whole_answers : Gives (λ (edit : Rows × List Command). answers edit.0 edit.1) (
    (([], []), codes "image x0000000000000000000000000000000000000000000000000000000000000000" ++ lf)
    ∷ (
      ([], Put a b (1 ∷ []) ∷ []),
      codes "new" ++ lf ++ codes "image x030000000000000001006104000000000000000100000003000000000000000100620300000000000000010001" ++ lf,
    )
    ∷ (
      (ab, Put a b (2 ∷ 2 ∷ []) ∷ []),
      codes "old x01" ++ lf ++ codes "image x03000000000000000100610400000000000000010000000300000000000000010062040000000000000001000202" ++ lf,
    )
    ∷ (
      (ab, Del a b ∷ Del a b ∷ []),
      codes "old x01" ++ lf ++ codes "none" ++ lf ++ codes "image x0000000000000000000000000000000000000000000000000000000000000000" ++ lf,
    )
    ∷ (
      (two_rows, Row b ∷ []),
      codes "row x61 x02" ++ lf
          ++ codes "image x0600000000000000020001006162080000000000000001000000020000000600000000000000020001007a610600000000000000020001000102" ++ lf,
    )
    ∷ (
      ([], Put [] [] [] ∷ []),
      codes "new" ++ lf
          ++ codes "image x020000000000000001000400000000000000010000000200000000000000010002000000000000000100" ++ lf,
    )
    ∷ [])
unfolding encode_with
whole_answers = refl

-- ---- replies, each on the map that the earlier commands leave

in_turn : reply_lines [] (Put a c (1 ∷ 2 ∷ []) ∷ Put a b [] ∷ Row a ∷ Get a b ∷ Del a c ∷ Row a ∷ Row b ∷ [])
    ≡ codes "new" ++ lf ++ codes "new" ++ lf ++ codes "row x62 x x63 x0102" ++ lf ++ codes "some x" ++ lf
    ++ codes "old x0102" ++ lf ++ codes "row x62 x" ++ lf ++ codes "none" ++ lf
unfolding encode_with
in_turn = refl

-- a pair whose row is there, and one whose row isn't
no_such_pair : replies ab (Get a c ∷ Get b b ∷ Del a c ∷ Del b b ∷ []) ≡ missing ∷ missing ∷ missing ∷ missing ∷ []
no_such_pair = refl

-- of 28 locales
of_locales : List Command
of_locales = Get (codes "sd") (codes "Khoj") ∷ Row (codes "ku") ∷ Del (codes "zh") (codes "Bopo") ∷ Put (codes "en") (codes "Latn") (codes "US") ∷ []

locale_replies : replies locales of_locales
    ≡ some (codes "IN") ∷ pairs ((codes "Arab", codes "IQ") ∷ (codes "Yezi", codes "GE") ∷ []) ∷ old (codes "TW") ∷ added ∷ []
unfolding of_locales
locale_replies = refl

-- how long their image is then, and where their rows end
locales_left : length (canon (last locales of_locales)) ∷ ends (last locales of_locales)
    ≡ 487 ∷ 2 ∷ 3 ∷ 4 ∷ 6 ∷ 7 ∷ 8 ∷ 9 ∷ 11 ∷ 13 ∷ 14 ∷ 15 ∷ 16 ∷ 17 ∷ 18 ∷ 21 ∷ 22 ∷ 23 ∷ 24 ∷ 25 ∷ 26 ∷ 28 ∷ []
unfolding of_locales
locales_left = refl

-- ---- long values

-- as many bytes as a value can have beside fields of two bytes, of one kind
abbrev longest : ℕ → List ℕ
longest byte = replicate 65534 byte

-- another value beside it, and values in its place
abbrev long_values : List Command
long_values = Put a b (longest 0) ∷ Put a c (1 ∷ []) ∷ Put a b (longest 1) ∷ Put a b (2 ∷ []) ∷ []

long_values_replies : replies [] long_values ≡ added ∷ added ∷ old (longest 0) ∷ old (longest 1) ∷ []
long_values_replies = refl

long_values_left : last [] long_values ≡ (a, (b, 2 ∷ []) ∷ (c, 1 ∷ []) ∷ []) ∷ []
long_values_left = refl

-- a byte more
one_byte_more : replies [] (Put a b (0 ∷ longest 0) ∷ []) ≡ added ∷ []
one_byte_more = refl

-- another row beside it: the values are wide then
abbrev beside_longest : List Command
beside_longest = Put a b (longest 0) ∷ Put c (codes "d") (1 ∷ []) ∷ Row c ∷ []

beside_longest_replies : replies [] beside_longest ≡ added ∷ added ∷ pairs ((codes "d", 1 ∷ []) ∷ []) ∷ []
beside_longest_replies = refl

beside_longest_image : length (canon (last [] beside_longest)) ≡ 65606
beside_longest_image = refl

-- a value in an image is put back, and gives way
oversized : List ℕ
oversized = replicate 70000 7

oversized_replies : replies ((a, (b, oversized) ∷ []) ∷ []) (Get a b ∷ Put a b oversized ∷ Put a b (1 ∷ 2 ∷ 3 ∷ []) ∷ [])
    ≡ some oversized ∷ old oversized ∷ old oversized ∷ []
unfolding oversized
oversized_replies = refl

oversized_gone : length (canon (last ((a, (b, oversized) ∷ []) ∷ []) (Put a b (1 ∷ 2 ∷ 3 ∷ []) ∷ []))) ≡ 47
unfolding oversized
oversized_gone = refl
