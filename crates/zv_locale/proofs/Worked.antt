-- Worked rows of the definitions, computed.
use Rattle.std.proofs.Common.{◌≡◌, ◌∷◌, [], ◌++◌, ℕ, List, Some, None, true, false, refl, codes, replicate}
use Rattle.std.specs.List.{flat_map}
use Rattle.std.specs.Prelude.{map}
use Rattle.std.specs.Str.{is_utf8, chars}
use Rattle.hex.specs.Hex.{decode_pairs, encode_with}
use Rattle.zv_input.specs.Input.{words}
use Rattle.zv_input.specs.declared.command.Command.TheVariants.{Get}
use Rattle.zv_map2d.specs.Rows.{Rows}
use Rattle.zv_locale.specs.Asks.{answers, ask_of}
use Rattle.zv_locale.specs.Names.{tries}
use Rattle.zv_locale.specs.Provided.{provided}
use Rattle.zv_locale.specs.Wanted.{is_wanted}

-- LF
abbrev lf : List ℕ
lf = 10 ∷ []

-- so many locales `a,`
abbrev locales_a : ℕ → List ℕ
locales_a n = flat_map (λ comma. codes "a" ++ comma) (replicate n (codes ","))

-- one locale; two; 16; the longest subtag; either case and digits
wanted_texts : map is_wanted (codes "en" ∷ codes "de-AT-1996,fr" ∷ (locales_a 15 ++ codes "b") ∷ codes "abcdefgh-1" ∷ codes "AZ-az-09" ∷ [])
    ≡ true ∷ true ∷ true ∷ true ∷ true ∷ []
wanted_texts = refl

-- none; a hyphen or a comma alone, at an end, twice; 17 locales; nine letters; another byte
other_texts : map is_wanted (
    [] ∷ codes "-" ∷ codes "-en" ∷ codes "en-" ∷ codes "en--US" ∷ codes "," ∷ codes ",en" ∷ codes "en," ∷ codes "en,,fr"
    ∷ (locales_a 16 ++ codes "b") ∷ codes "abcdefghi" ∷ codes "en_GB" ∷ codes "en GB" ∷ codes "en/" ∷ codes "@" ∷ [])
    ≡ replicate 15 false
other_texts = refl

tried : map tries (codes "de-AT-1996" ∷ codes "en-US,fr" ∷ codes "und" ∷ [])
    ≡ (codes "de-AT-1996" ∷ codes "de-AT" ∷ codes "de" ∷ codes "und" ∷ [])
    ∷ (codes "en-US" ∷ codes "en" ∷ codes "fr" ∷ codes "und" ∷ []) ∷ (codes "und" ∷ codes "und" ∷ []) ∷ []
tried = refl

-- the row "d" of three names
british : Rows
british = (codes "d", (codes "en", 1 ∷ []) ∷ (codes "en-GB", 2 ∷ []) ∷ (codes "und", 3 ∷ []) ∷ []) ∷ []

-- a front; a front of the second locale; a front before the second locale; the root; no such row
best : map (provided british (codes "d")) (codes "en-GB-1" ∷ codes "fr,en-US" ∷ codes "en-US,en-GB" ∷ codes "fr" ∷ [])
    ≡ Some (codes "en-GB", 2 ∷ []) ∷ Some (codes "en", 1 ∷ []) ∷ Some (codes "en", 1 ∷ []) ∷ Some (codes "und", 3 ∷ []) ∷ []
unfolding british
best = refl

no_row : provided british (codes "e") (codes "en") ≡ None
unfolding british
no_row = refl

-- a key and a wanted text; no wanted text; another word; a word too few and too many; a key that is no UTF-8
lines_that_ask : map (λ line. ask_of (words line)) (
    codes "ask x64 x656e2d4742" ∷ codes "ask x64 x656e2d" ∷ codes "get x64 x656e" ∷ codes "ask x64" ∷ codes "ask x64 x656e x" ∷ codes "ask xff x656e" ∷ [])
    ≡ Some (Get (codes "d") (codes "en-GB")) ∷ None ∷ None ∷ None ∷ None ∷ None ∷ []
unfolding decode_pairs is_utf8 chars lib.Utf8.encode
lines_that_ask = refl

answered : answers british (Get (codes "d") (codes "en-GB-1") ∷ Get (codes "e") (codes "fr") ∷ Get (codes "d") (codes "fr") ∷ [])
    ≡ codes "some x656e2d4742 x02" ++ lf ++ codes "none" ++ lf ++ codes "some x756e64 x03" ++ lf
unfolding british encode_with
answered = refl
