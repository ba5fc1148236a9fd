-- Maps in two levels as JSON: objects of objects.
use Rattle.std.specs.Prelude.{◌&&◌, not, is_none, Option, Result, Ok, Err, List}
use Rattle.std.specs.Prelude.{if◌then◌else◌}
use Rattle.std.specs.Option.{ok_or, option_map}
use Rattle.serde_json.specs.Data.{Data, Members, no_members, object}
use Rattle.serde_json.specs.Find.{as_object}
use Rattle.zv_forms.specs.Maps.{members_taken, members_written}
use Rattle.zv_json.specs.Json.{and_then}
use Rattle.zv_json.specs.declared.error.JsonError.{JsonError}
use Rattle.zv_json.specs.declared.error.JsonError.TheVariants.{Memory, Shape, TooLarge}
use Rattle.zv_map2d.specs.Refusals.{is_full}
use Rattle.zv_map2d.specs.Fits.{Rule, fits}
use Rattle.zv_map2d.specs.Keys.{Bytes, Order}
use Rattle.zv_map2d.specs.Rows.{Rows, find, put}
use Rattle.zv_map2d.specs.declared.error.Map2dError.{Map2dError}
use Rattle.zv_map2d.specs.declared.error.Map2dError.TheVariants.{TooLarge as MapTooLarge, TooMany}
use Rattle.zv_map2d.specs.declared.error.Map2dError.TheVariants.{Memory as MapMemory}

-- the object of a row's pairs
abbrev pub row_written : (Bytes → Option Bytes) → (Bytes → Option Data) → List (Bytes × Bytes) →
    Option Data
row_written name value ps = option_map object (members_written name value no_members ps)

-- the object of a map's rows, each the object of its pairs
abbrev pub rows_written : (Bytes → Option Bytes) → (Bytes → Option Bytes) →
    (Bytes → Option Data) → Rows → Option Data
rows_written name0 name1 value m =
    option_map object (members_written name0 (row_written name1 value) no_members m)

-- the members of a value that is to be an object
abbrev pub object_in : Data → Result Members JsonError
object_in d = ok_or (as_object d) Shape

-- why a map refuses a pair
abbrev pub refusal_of : Map2dError → JsonError
refusal_of MapTooLarge = TooLarge
refusal_of TooMany = TooLarge
refusal_of MapMemory = Memory

module _ (rule : Rule) (order0 order1 : Order) where
  -- a map with a pair, if that fits and, where it is new, there is room for one more
  abbrev pub put_in : Rows → Bytes → Bytes → Bytes → Result Rows JsonError
  put_in m k0 k1 v =
      if fits rule order0 order1 m k0 k1 v
      && not (is_none (find order0 order1 m k0 k1) && is_full m)
      then Ok (put order0 order1 m k0 k1 v) else Err TooLarge

  module _ (of_name0 of_name1 : Bytes → Option Bytes) (of_value : Data → Result Bytes JsonError)
    where
      -- the map m, with the pairs of a row's members put in, one after another
      abbrev pub row_in : Bytes → Rows → Members → Result Rows JsonError
      row_in k0 m ms =
          members_taken of_name1 (λ n k1 d. and_then (of_value d) (λ v. put_in n k0 k1 v)) m ms

      -- the map m, with the rows of members put in, one after another
      abbrev pub rows_in : Rows → Members → Result Rows JsonError
      rows_in m ms =
          members_taken of_name0 (λ n k0 d. and_then (object_in d) (λ row. row_in k0 n row)) m ms
