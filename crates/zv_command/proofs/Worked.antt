-- Worked rows of the definitions, computed.
use Rattle.zv_command.proofs.Common.{◌≡◌, ◌∷◌, [], ◌++◌, ℕ, List, Ok, Err, Some, refl, codes, filter, map, bad_line, MAX_INPUT}
use Rattle.zv_command.proofs.Common.{Status, Done, Usage, ReadFault, TooLong, BadLine, BadImage, Memory, WriteFault, is_answer, is_written, is_silent, code_of}
use Rattle.std.specs.Fmt.{digits}
use Rattle.hex.specs.Hex.{decode_pairs, encode_with}
use Rattle.std.specs.Prelude.{Option, bytes_eq, if◌then◌else◌, None}
use Rattle.zv_command.specs.Inputs.{request_of}
use Rattle.zv_command.specs.Text.{hex_field}

-- LF
abbrev lf : List ℕ
lf = 10 ∷ []

texts : hex_field (1 ∷ 171 ∷ []) ∷ bad_line 12 ∷ [] ≡ codes "x01ab" ∷ (codes "error line 12" ++ lf) ∷ []
unfolding digits encode_with
texts = refl

-- every status, in the order of the program's checks
abbrev statuses : List Status
statuses = Done ∷ Usage ∷ ReadFault ∷ TooLong ∷ BadLine ∷ BadImage ∷ Memory ∷ WriteFault ∷ []

codes_of_statuses : map code_of statuses ≡ 0 ∷ 1 ∷ 2 ∷ 3 ∷ 4 ∷ 5 ∷ 6 ∷ 7 ∷ []
codes_of_statuses = refl

statuses_that_say : map (λ says. filter says statuses) (is_answer ∷ is_written ∷ is_silent ∷ [])
    ≡ (Done ∷ BadLine ∷ BadImage ∷ []) ∷ (Done ∷ Usage ∷ BadLine ∷ BadImage ∷ []) ∷ (ReadFault ∷ TooLong ∷ Memory ∷ []) ∷ []
statuses_that_say = refl

-- a request that takes the lines `a`
abbrev with_a : List (List ℕ) → List ℕ → Option (List (List ℕ))
with_a said text = if bytes_eq text (codes "a") then Some (said ++ text ∷ []) else None

-- one line; two lines and a last one without LF; nothing; an empty first line; a bad second line before a bad fourth; a bad line 1
-- before a bad line 2
inputs : map (request_of with_a []) (
    (codes "x00ff" ++ lf) ∷ (codes "x00" ++ lf ++ codes "a" ++ lf ++ codes "a") ∷ [] ∷ lf
    ∷ (codes "x" ++ lf ++ codes "b" ++ lf ++ codes "a" ++ lf ++ codes "b") ∷ (codes "x0" ++ lf ++ codes "b" ++ lf) ∷ [])
    ≡ Ok (0 ∷ 255 ∷ [], []) ∷ Ok (0 ∷ [], codes "a" ∷ codes "a" ∷ []) ∷ Err 1 ∷ Err 1 ∷ Err 2 ∷ Err 1 ∷ []
unfolding request_of decode_pairs
inputs = refl

limit : MAX_INPUT ≡ 16777216
limit = refl
