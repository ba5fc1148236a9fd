-- A text of one character.
use Rattle.std.proofs.Common.{◌≡◌, ℕ, List, [], ◌∷◌, ◌++◌, length, true, Some, encode_utf8, bytes_eq, refl, append-nil}
use Rattle.std.proofs.lemmas.Slice.Eq.{bytes_eq-Decides}
use Rattle.zv_json.specs.Texts.{alone}

same_text : (xs : List ℕ) → bytes_eq xs xs ≡ true
same_text xs = (bytes_eq-Decides xs xs).1 refl

-- a text of which nothing follows its first character is that character's
pub alone_last : (text rest : List ℕ) (c : ℕ) → text ≡ encode_utf8 c ++ rest → length rest ≡ 0 → alone text c ≡ Some c
alone_last text [] c is none = rw (is, append-nil (encode_utf8 c), same_text (encode_utf8 c)) refl
alone_last text (x ∷ rest) c is none = cc
