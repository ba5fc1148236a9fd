-- What a wanted text and a try stand for.
use Rattle.std.specs.Prelude.{ℕ, List, [], ◌∷◌, ◌++◌, codes}
use Rattle.zv_locale.specs.Names.{names_of, tries}
use Rattle.zv_ule.specs.Views.{element_of}
use Rattle.zv_locale.specs.declared.lookup.Provided.{Provided}
use Rattle.zv_locale.specs.declared.walk.After.{After}
use Rattle.zv_locale.specs.declared.walk.After.TheVariants.{Locales, Root, Nothing}
use Rattle.zv_locale.specs.declared.walk.Try.{Try}
use Rattle.zv_locale.specs.declared.wanted.Wanted.{Wanted}

-- the text of the wanted locales
abbrev pub text_of : Wanted → List ℕ
text_of w = w.text.now

-- a name that was found, and its value
abbrev pub name_and_value : Provided → List ℕ × List ℕ
name_and_value p = (p.name.now, element_of p.value)

-- the names that are tried after those of a locale
abbrev pub names_after : After → List (List ℕ)
names_after (Locales text) = tries text.now
names_after Root = codes "und" ∷ []
names_after Nothing = []

-- a try's name and those after it
abbrev pub left : Try → List (List ℕ)
left t = names_of t.name.now ++ names_after t.after
