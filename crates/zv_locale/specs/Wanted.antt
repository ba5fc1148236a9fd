-- Wanted texts: locales in the order in which they are wanted.
use Rattle.std.specs.Prelude.{ℕ, Bool, ◌==◌, ◌&&◌, ◌||◌, nat_le, List, length}
use Rattle.std.specs.Char.{is_ascii_alphanumeric}
use Rattle.std.specs.Int.{is_in_range}
use Rattle.std.specs.List.{list_all, slice_split}

-- whether a byte ends a subtag (`-`, 45) or a locale (`,`, 44) before another
abbrev pub is_cut : ℕ → Bool
is_cut b = b == 45 || b == 44

-- the subtags of a locale, which `-` (45) parts
abbrev pub subtags : List ℕ → List (List ℕ)
subtags locale = slice_split (λ b. b == 45) locale

-- the locales of a text, which `,` (44) parts
abbrev pub locales : List ℕ → List (List ℕ)
locales text = slice_split (λ b. b == 44) text

-- 1 to 8 ASCII letters or digits
abbrev pub is_subtag : List ℕ → Bool
is_subtag text = is_in_range 1 8 (length text) && list_all is_ascii_alphanumeric text

-- one or more subtags
abbrev pub is_locale : List ℕ → Bool
is_locale text = list_all is_subtag (subtags text)

-- 1 to 16 locales
abbrev pub is_wanted : List ℕ → Bool
is_wanted text = nat_le (length (locales text)) 16 && list_all is_locale (locales text)
