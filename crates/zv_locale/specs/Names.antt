-- The names that are tried for a wanted text.
use Rattle.std.specs.Prelude.{ℕ, List, [], ◌∷◌, ◌++◌, codes, map}
use Rattle.std.specs.List.{flat_map}
use Rattle.zv_locale.specs.Wanted.{locales, subtags}

-- the first subtags joined by `-` (45), from all of them down to one
abbrev pub fronts : List (List ℕ) → List (List ℕ)
fronts [] = []
fronts (subtag ∷ more) = map (λ front. subtag ++ 45 ∷ front) (fronts more) ++ subtag ∷ []

-- a locale, and what is left of it as its last subtags are dropped
abbrev pub names_of : List ℕ → List (List ℕ)
names_of locale = fronts (subtags locale)

-- the names that are tried for a text: those of its locales in order, and then the root
abbrev pub tries : List ℕ → List (List ℕ)
tries text = flat_map names_of (locales text) ++ codes "und" ∷ []
