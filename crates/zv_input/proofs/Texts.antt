-- Which bytes are texts.
use Rattle.std.proofs.Common.{arith, sym}
use Rattle.std.specs.Prelude.{◌≡◌, ◌<◌, ℕ, List, [], ◌∷◌, length, true}
use Rattle.std.specs.Str.{is_utf8}
use Rattle.std.proofs.lemmas.Str.{is_utf8-from_IsUtf8, IsUtf8-from_ascii, IsUtf8-from_is_utf8, IsUtf8-nil}

-- which bytes pass the test for UTF-8
pub ruleset text_tests = (is_utf8-from_IsUtf8, IsUtf8-from_is_utf8, IsUtf8-from_ascii)

-- no bytes pass it
pub no_text : (bytes : List ℕ) → length bytes < 1 → true ≡ is_utf8 bytes
no_text [] less = sym (is_utf8-from_IsUtf8 [] IsUtf8-nil)
no_text (b ∷ bytes) less = grind (arith, less)
