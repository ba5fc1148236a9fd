-- What a line's words say of its command: it is no larger than they are, and its keys are texts.
use Rattle.zv_input.proofs.Common.{◌≡◌, ℕ, ◌+◌, ◌*◌, ◌≤◌, List, [], ◌∷◌, length, refl, arith, None, IfSome, onto_first, length-slice_split, sum_by-cons}
use Rattle.zv_input.proofs.Common.{is_byte, decode_of-ok, Command, Put, Row, command_size, ◌>>=◌, words, field, key, command_of_words, OfTexts}
use Rattle.zv_input.proofs.Common.{first_of, slice_split, sum_by, two_keys, row, first_keys, if_last, put}
use Rattle.zv_ule.specs.Kinds.{text_fault}

-- ---- fields

-- a field has two digits for each byte, and its mark
abbrev IsFieldOf : List ℕ → List ℕ → Type 0
IsFieldOf word bytes = length word ≡ 1 + 2 * length bytes

pub field_is : (word : List ℕ) → IfSome (field word) (IsFieldOf word)
field_is [] = tt
field_is (mark ∷ digits) = let of = decode_of-ok digits in grind arith

-- a key is a text too
abbrev IsKeyOf : List ℕ → List ℕ → Type 0
IsKeyOf word text = IsFieldOf word text × (text_fault text ≡ None)

pub key_is : (word : List ℕ) → IfSome (key word) (IsKeyOf word)
key_is word = let long = field_is word in grind arith

-- ---- commands

abbrev IsCommandOf : List (List ℕ) → Command → Type 0
IsCommandOf ws c = (command_size c ≤ sum_by length ws) × OfTexts c

command_is : (ws : List (List ℕ)) → IfSome (command_of_words ws) (IsCommandOf ws)
command_is [] = tt
command_is (name ∷ []) = grind arith
command_is (name ∷ a ∷ []) = let k = key_is a in grind arith
command_is (name ∷ a ∷ b ∷ []) = let k = key_is a in let l = key_is b in grind arith
command_is (name ∷ a ∷ b ∷ c ∷ []) = let k = key_is a in let l = key_is b in let v = field_is c in grind arith
command_is (name ∷ a ∷ b ∷ c ∷ d ∷ rest) = grind arith

-- the pieces of a text are no longer than it
onto_first_size : (b : ℕ) (ws : List (List ℕ)) → sum_by length (onto_first b ws) ≡ 1 + sum_by length ws
onto_first_size b [] = refl
onto_first_size b (w ∷ ws) = omega (arith, sum_by-cons length (b ∷ w) ws, sum_by-cons length w ws)

pub pieces_size : (byte : ℕ) (text : List ℕ) → sum_by length (slice_split (is_byte byte) text) ≤ length text
pieces_size byte [] = omega arith
pieces_size byte (b ∷ rest) =
    let pieces = slice_split (is_byte byte) rest in
    let ih = pieces_size byte rest in let more = onto_first_size b pieces in grind (arith, sum_by-cons length [] pieces)

-- a line's command is no larger than it, and its keys are texts
pub line_command : (line : List ℕ) → IfSome (command_of_words (words line)) (λ c. (command_size c ≤ length line) × OfTexts c)
line_command line = let is = command_is (words line) in let size = pieces_size 32 line in grind arith

-- ---- word by word

-- fields before other words
pub not_last : {A : Type 0} (a : A) (text : List ℕ) → if_last a (words text) ≡ None
not_last a text = let some = length-slice_split (is_byte 32) text in grind arith

pub two_by_keys : (ws : List (List ℕ)) → two_keys ws ≡ (first_keys ws >>= (λ t. if_last (t.0, t.1) t.2))
two_by_keys ws = grind arith

pub put_by_keys : (ws : List (List ℕ)) → put ws ≡ (first_keys ws >>= (λ t. first_of field t.2 >>= (λ v. if_last (Put t.0 t.1 v.0) v.1)))
put_by_keys ws = grind arith

pub row_by_key : (ws : List (List ℕ)) → row ws ≡ (first_of key ws >>= (λ k. if_last (Row k.0) k.1))
row_by_key ws = grind arith
