-- The words of a line, one after another.
use Rattle.std.specs.Prelude.{◌≡◌, ℕ, ◌+◌, ◌==◌, length, if◌then◌else◌, false, List, [], ◌∷◌}
use Rattle.std.specs.List.{All}
use Rattle.std.specs.declared.option.Option.{Option}
use Rattle.std.specs.declared.option.Option.TheVariants.{Some, None}
use Rattle.memchr.specs.Find.{is_byte}
use Rattle.zv_input.specs.Digits.{◌>>=◌}
use Rattle.zv_input.specs.Input.{key, words}

-- what follows the mark `x` (120) of a field
abbrev pub after_mark : List ℕ → Option (List ℕ)
after_mark [] = None
after_mark (mark ∷ digits) = if mark == 120 then Some digits else None

-- the words that follow a word, by the text after its space: none where the line ends
abbrev pub words_after : Option (List ℕ) → List (List ℕ)
words_after None = []
words_after (Some text) = words text

-- how long the text after a word is, with the space before it
abbrev pub text_size : Option (List ℕ) → ℕ
text_size None = 0
text_size (Some text) = 1 + length text

-- what the first word is read as, and the words that follow it
abbrev pub first_of : {A : Type 0} → (List ℕ → Option A) → List (List ℕ)
    → Option (A × List (List ℕ))
first_of read [] = None
first_of read (word ∷ rest) = do
  a ← read word
  Some (a, rest)

-- what fields are read as, where no words follow them
abbrev pub if_last : {A : Type 0} → A → List (List ℕ) → Option A
if_last a [] = Some a
if_last a (word ∷ rest) = None

-- what the first two words are as keys, and the words that follow them
abbrev pub first_keys : List (List ℕ) → Option (List ℕ × List ℕ × List (List ℕ))
first_keys ws = do
  a ← first_of key ws
  b ← first_of key a.1
  Some (a.0, b.0, b.1)

-- No byte of the text is this one.
abbrev pub Lacks : ℕ → List ℕ → Type 0
Lacks byte text = All (λ b. is_byte byte b ≡ false) text
