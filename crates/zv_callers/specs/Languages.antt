-- What a table knows of languages.
use Rattle.std.specs.Prelude.{ℕ, List, Option, option_map}
use Rattle.zv_var.specs.Format.{elements_after}
use Rattle.zv_map1.specs.Views.{Pairs, look_up}
use Rattle.zv_map2d.specs.Image.{by_bytes}

-- the fields of a language's record
abbrev pub fields_of : Pairs → List ℕ → Option (List (List ℕ))
fields_of table language = option_map (elements_after 2 3) (look_up by_bytes table language)
