-- JSON documents that hold tables of names.
use Rattle.std.specs.Prelude.{◌≡◌, ℕ, List, Some, Result, true}
use Rattle.serde_json.specs.Data.{Data}
use Rattle.serde_json.specs.Read.{read}
use Rattle.zv_forms.specs.Maps.{map_in}
use Rattle.zv_json.specs.Again.{IsAgain}
use Rattle.zv_json.specs.Texts.{text_in}
use Rattle.zv_json.specs.declared.error.JsonError.{JsonError}
use Rattle.zv_map1.specs.Fits.{Rule}
use Rattle.zv_map1.specs.Views.{Pairs}
use Rattle.zv_map2d.specs.Image.{by_bytes}

-- the names that a value is read as, in lists of this size rule
abbrev pub names_in : Rule → Data → Result Pairs JsonError
names_in rule value = map_in rule by_bytes (λ name. Some name) text_in text_in true value

-- a document holds these names: it is the text of a value, and whatever the size rule of its lists,
-- a table that is read from the value has them, or is too large
pub record Holds (document : List ℕ) (pairs : Pairs) : Type 0 where
  pub value : Data
  pub is : read document ≡ Some value
  pub same : (rule : Rule) → IsAgain (λ names. names ≡ pairs) (names_in rule value)
