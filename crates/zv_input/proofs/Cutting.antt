-- The pieces of a text: its first piece, its lines and its words.
use Rattle.zv_input.proofs.Common.{◌≡◌, ℕ, ◌+◌, ◌-◌, ◌<◌, ◌≤◌, List, [], ◌∷◌, ◌++◌, length, get_or, take, drop, true, false, refl, ap, ◌∙◌, subst, arith}
use Rattle.zv_input.proofs.Common.{Some, None, append_assoc, add-one, Option, slice_split, eqb-true, take_all, take_rest, length-take, slice_split_at}
use Rattle.zv_input.proofs.Common.{slice_split_none, length-slice_split, is_byte, ◌>>=◌, field, key, lines, words, Lacks, first_of, eq-eqb, option_and_then}
use Rattle.zv_input.proofs.Common.{split_at, get_or-take, false_from_ne_true, All-append, All-from_get_or, content_of, without_empty_last, after_mark}
use Rattle.zv_input.proofs.Common.{words_after}

module _ (byte : ℕ) (text : List ℕ) where
  -- no byte is this one before the first
  pub lacks_before : (end : ℕ) → ((k : ℕ) → 0 ≤ k → k < end → is_byte byte (get_or text k 0) ≡ true → ⊥) → Lacks byte (take end text)
  lacks_before end none =
      All-from_get_or (λ b. is_byte byte b ≡ false) (take end text) 0
      (λ i lt. let low : i < end = omega (arith, length-take end text) in rw (get_or-take end text i 0 low) (false_from_ne_true _ (none i (omega arith) low)))

  -- the text is what stands before a byte, the byte and what follows it
  pub cut_around : (end : ℕ) → end < length text → is_byte byte (get_or text end 0) ≡ true
      → text ≡ take end text ++ byte ∷ take (length text - (end + 1)) (drop (end + 1) text)
  cut_around end within found =
      let same : get_or text end 0 ≡ byte = eqb-true (get_or text end 0) byte found in
      let at : text ≡ take end text ++ get_or text end 0 ∷ drop (end + 1) text = rw (add-one end) (split_at text end 0 within) in
      rw (take_rest text (end + 1)) (subst (λ b. text ≡ take end text ++ b ∷ drop (end + 1) text) same at)

  pub split_around : (end : ℕ) → Lacks byte (take end text) → text ≡ take end text ++ byte ∷ take (length text - (end + 1)) (drop (end + 1) text)
      → slice_split (is_byte byte) text ≡ take end text ∷ slice_split (is_byte byte) (take (length text - (end + 1)) (drop (end + 1) text))
  split_around end before cut = ap (slice_split (is_byte byte)) cut ∙ slice_split_at (is_byte byte) (take end text) byte _ before (eq-eqb byte byte refl)

-- a piece before others is kept
kept : (piece : List ℕ) (rest : List (List ℕ)) → 0 < length rest → without_empty_last (piece ∷ rest) ≡ piece ∷ without_empty_last rest
kept piece rest some = grind arith

-- a line that came in two parts, and its LF
pub line_and : (tail line rest after : List ℕ) → Lacks 10 tail → Lacks 10 line
    → lines (tail ++ ((line ++ 10 ∷ rest) ++ after)) ≡ (tail ++ line) ∷ lines (rest ++ after)
line_and tail line rest after lacks_tail lacks_line =
    let whole : tail ++ ((line ++ 10 ∷ rest) ++ after) ≡ (tail ++ line) ++ 10 ∷ (rest ++ after) = simp append_assoc in
    rw (whole, slice_split_at (is_byte 10) (tail ++ line) 10 (rest ++ after) (All-append (λ b. is_byte 10 b ≡ false) tail line lacks_tail lacks_line) refl)
    (kept (tail ++ line) (slice_split (is_byte 10) (rest ++ after)) (omega (arith, length-slice_split (is_byte 10) (rest ++ after))))

-- a line with no LF
pub last_line : (line : List ℕ) → Lacks 10 line → 0 < length line → lines line ≡ line ∷ []
last_line line lacks some = let whole = slice_split_none (is_byte 10) line lacks in grind arith

-- ---- words

-- a text whose first word ends where it does
pub last_word : (text : List ℕ) (len : ℕ) → length text ≤ len → Lacks 32 (take len text) → words text ≡ take len text ∷ []
last_word text len all lacks = rw (take_all len text all) (slice_split_none (is_byte 32) text (subst (Lacks 32) (take_all len text all) lacks))

-- or at a space
pub word_and : (text : List ℕ) (len : ℕ) → len < length text → get_or text len 0 ≡ 32 → Lacks 32 (take len text)
    → words text ≡ take len text ∷ words (take (length text - (len + 1)) (drop (len + 1) text))
word_and text len within space lacks = split_around 32 text len lacks (cut_around 32 text len within (ap (is_byte 32) space))

-- no byte of a word of three is a space
pub lacks_three : (text : List ℕ) → 3 ≤ length text → (get_or text 0 0 ≡ 32 → ⊥) → (get_or text 1 0 ≡ 32 → ⊥) → (get_or text 2 0 ≡ 32 → ⊥)
    → Lacks 32 (take 3 text)
lacks_three text some a b c = lacks_before 32 text 3 (λ k low lt is. grind (arith, eqb-true (get_or text k 0) 32 is))

-- what a reading of fields by their digits gives at the first word of a text
module _ {A : Type 0} (read inner : List ℕ → Option A) (is : (word : List ℕ) → read word ≡ (after_mark word >>= inner)) where
  first_marked : (text : List ℕ) → first_of read (words text) ≡ (after_mark text >>= (λ d. first_of inner (words d)))
  first_marked [] = rw (is []) refl
  first_marked (b ∷ rest) = let some = length-slice_split (is_byte 32) rest in grind (arith, is)

  first_field : (text : Option (List ℕ)) → first_of read (words_after text) ≡ (option_and_then after_mark text >>= (λ d. first_of inner (words d)))
  first_field None = refl
  first_field (Some text) = first_marked text

pub first_key : (text : Option (List ℕ)) → first_of key (words_after text) ≡ (option_and_then after_mark text >>= (λ d. first_of (content_of 1) (words d)))
first_key = first_field key (content_of 1) (λ word. grind arith)

pub first_value : (text : Option (List ℕ)) → first_of field (words_after text) ≡ (option_and_then after_mark text >>= (λ d. first_of (content_of 0) (words d)))
first_value = first_field field (content_of 0) (λ word. grind arith)
