-- What lines say: their words, fields and commands.
use Rattle.std.specs.Prelude.{ℕ, ◌==◌, if◌then◌else◌, List, [], ◌∷◌, codes, bytes_eq}
use Rattle.std.specs.List.{slice_split}
use Rattle.std.specs.Str.{is_utf8}
use Rattle.std.specs.declared.option.Option.{Option}
use Rattle.std.specs.declared.option.Option.TheVariants.{Some, None}
use Rattle.memchr.specs.Find.{is_byte}
use Rattle.zv_input.specs.Digits.{◌>>=◌, bytes_of_digits}
use Rattle.zv_input.specs.declared.command.Command.{Command}
use Rattle.zv_input.specs.declared.command.Command.TheVariants.{Get, Put, Del, Row}

-- ---- lines and words

-- a piece, unless it is empty
abbrev pub unless_empty : List ℕ → List (List ℕ)
unless_empty [] = []
unless_empty piece = piece ∷ []

-- pieces without the last, where that is empty
abbrev pub without_empty_last : List (List ℕ) → List (List ℕ)
without_empty_last [] = []
without_empty_last (last ∷ []) = unless_empty last
without_empty_last (piece ∷ next ∷ rest) = piece ∷ without_empty_last (next ∷ rest)

-- the lines of an input: each ends in LF (10), which may be missing after the last
abbrev pub lines : List ℕ → List (List ℕ)
lines input = without_empty_last (slice_split (is_byte 10) input)

-- the words of a line, which single spaces (32) part
abbrev pub words : List ℕ → List (List ℕ)
words line = slice_split (is_byte 32) line

-- the word, where there is one and no other
abbrev pub one_word : List (List ℕ) → Option (List ℕ)
one_word (a ∷ []) = Some a
one_word others = None

-- the words, where there are two
abbrev pub two_words : List (List ℕ) → Option (List ℕ × List ℕ)
two_words [] = None
two_words (a ∷ rest) = do
  b ← one_word rest
  Some (a, b)

-- the words, where there are three
abbrev pub three_words : List (List ℕ) → Option (List ℕ × List ℕ × List ℕ)
three_words [] = None
three_words (a ∷ rest) = do
  pair ← two_words rest
  Some (a, pair.0, pair.1)

-- ---- fields

-- the bytes that a field stands for: `x` (120) and its digits
abbrev pub field : List ℕ → Option (List ℕ)
field [] = None
field (mark ∷ digits) = if mark == 120 then bytes_of_digits digits else None

-- the text that a key stands for: a field whose bytes are UTF-8
abbrev pub key : List ℕ → Option (List ℕ)
key word = do
  bytes ← field word
  if is_utf8 bytes then Some bytes else None

-- ---- commands

-- the keys, where the words are two
abbrev pub two_keys : List (List ℕ) → Option (List ℕ × List ℕ)
two_keys fields = do
  pair ← two_words fields
  key0 ← key pair.0
  key1 ← key pair.1
  Some (key0, key1)

-- the look-up of a pair of keys: what stands after `get`
abbrev pub get : List (List ℕ) → Option Command
get fields = do
  keys ← two_keys fields
  Some (Get keys.0 keys.1)

-- a value, which is a field, for a pair of keys: what stands after `put`
abbrev pub put : List (List ℕ) → Option Command
put fields = do
  triple ← three_words fields
  key0 ← key triple.0
  key1 ← key triple.1
  value ← field triple.2
  Some (Put key0 key1 value)

-- the removal of a pair of keys: what stands after `del`
abbrev pub del : List (List ℕ) → Option Command
del fields = do
  keys ← two_keys fields
  Some (Del keys.0 keys.1)

-- all pairs of a first key: what stands after `row`
abbrev pub row : List (List ℕ) → Option Command
row fields = do
  a ← one_word fields
  key0 ← key a
  Some (Row key0)

-- the command of a name and the fields after it: `get K K`, `put K K F`, `del K K` or `row K`,
-- with keys K and a field F
abbrev pub command_of : List ℕ → List (List ℕ) → Option Command
command_of name fields =
    if bytes_eq name (codes "get") then get fields
    else if bytes_eq name (codes "put") then put fields
    else if bytes_eq name (codes "del") then del fields
    else if bytes_eq name (codes "row") then row fields
    else None

-- the command that the words of a line are
abbrev pub command_of_words : List (List ℕ) → Option Command
command_of_words [] = None
command_of_words (name ∷ fields) = command_of name fields
