-- Pieces of texts between boundaries.
use Rattle.zv_ule.proofs.Common.{◌≡◌, ℕ, ◌≤◌, ◌-◌, List, length, drop, None, true, slice_range, arith, nat_tests, IsUtf8, text_fault}
use Rattle.std.proofs.Common.{◌||◌, nat_lt, nat_le, slice_index}
use Rattle.std.specs.Str.{IsAscii, IsCharBoundary}
use Rattle.std.proofs.lemmas.Str.{IsUtf8-between, IsUtf8-from_ascii, IsAscii-take, IsAscii-drop}
use Rattle.zv_ule.specs.Kinds.{text_boundary}
use Rattle.zv_ule.proofs.Texts.{text_good}

past : (n : ℕ) → (nat_lt n 128 || nat_le 192 n) ≡ true → 128 ≤ n → 192 ≤ n
past n e h = grind (arith, nat_tests)

char_boundary : (d : List ℕ) (a : ℕ) → a ≤ length d → text_boundary d a ≡ true → IsCharBoundary d a
char_boundary d a h e = (h, λ within low. past (slice_index d a) e low)

pub text_between : (d : List ℕ) (a b : ℕ) → IsUtf8 d → a ≤ b → b ≤ length d → text_boundary d a ≡ true → text_boundary d b ≡ true →
    text_fault (slice_range d a b) ≡ None
text_between d a b t h k x y = text_good (slice_range d a b) (IsUtf8-between d a b t h (char_boundary d a (omega arith) x)
    (char_boundary d b k y))

pub ascii_between : (d : List ℕ) (a b : ℕ) → IsAscii d → text_fault (slice_range d a b) ≡ None
ascii_between d a b h = text_good (slice_range d a b) (IsUtf8-from_ascii (slice_range d a b) (IsAscii-take (drop a d) (b - a) (IsAscii-drop d a h)))
