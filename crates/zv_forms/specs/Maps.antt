-- Maps in one level as JSON. Names are those that keys have as members of an object.
use Rattle.std.specs.Prelude.{Bool, ◌||◌, ◌==◌, List, [], ◌∷◌, ◌++◌, length, map, Option, Some}
use Rattle.std.specs.Prelude.{◌≡◌, Result, Ok, Err, if◌then◌else◌, true, zip}
use Rattle.std.specs.Option.{ok_or, option_and_then, option_map}
use Rattle.serde_json.specs.Data.{Data, Members, no_members, member, object, array, null, boolean}
use Rattle.serde_json.specs.Data.{number, string, put}
use Rattle.zv_json.specs.Arrays.{array_written, of_two}
use Rattle.zv_json.specs.Json.{and_then, items_in, list_of}
use Rattle.zv_json.specs.declared.error.JsonError.{JsonError}
use Rattle.zv_json.specs.declared.error.JsonError.TheVariants.{BadKey, KeyOrder, Memory, Shape}
use Rattle.zv_json.specs.declared.error.JsonError.TheVariants.{TooLarge}
use Rattle.zv_map.specs.declared.error.MapError.{MapError}
use Rattle.zv_map.specs.declared.error.MapError.TheVariants.{TooLarge as MapTooLarge}
use Rattle.zv_map.specs.declared.error.MapError.TheVariants.{Memory as MapMemory}
use Rattle.zv_map1.specs.Appends.{is_above}
use Rattle.zv_map1.specs.Fits.{Rule, fits, pair_fits}
use Rattle.zv_map1.specs.Views.{Bytes, Order, Pairs, insert_entry}
use Rattle.zv_owned.specs.Size.{takes_pushes}

-- ---- what is written

-- the members of an object with those of some entries put in, one after another: for each the name
-- of its key, and what it has
abbrev pub members_written : {X : Type 0} → (Bytes → Option Bytes) → (X → Option Data) → Members →
    List (Bytes × X) → Option Members
members_written name value ms [] = Some ms
members_written name value ms (e ∷ es) = option_and_then (λ l. option_and_then
    (λ d. members_written name value (put l d ms) es) (value e.1)) (name e.0)

-- the array of a key and its value
abbrev pub pair_written : (Bytes → Option Data) → (Bytes → Option Data) → Bytes × Bytes →
    Option Data
pair_written key value p = array_written (key p.0 ∷ value p.1 ∷ [])

-- a map: an object where keys have names or there is no pair, and else an array of pairs
abbrev pub map_written : Bool → (Bytes → Option Bytes) → (Bytes → Option Data) →
    (Bytes → Option Data) → Pairs → Option Data
map_written named name key value ps =
    if named || length ps == 0 then option_map object (members_written name value no_members ps)
    else array_written (map (pair_written key value) ps)

-- ---- what is read

-- m after each of the members, one after another, a key being read before what it has
abbrev pub members_taken : {M : Type 0} → (Bytes → Option Bytes) →
    (M → Bytes → Data → Result M JsonError) → M → Members → Result M JsonError
members_taken of_name take m no_members = Ok m
members_taken of_name take m (member name d ms) = and_then (ok_or (of_name name) BadKey) (λ k.
    and_then (take m k d) (λ n. members_taken of_name take n ms))

-- the map m, if what is new fits
abbrev pub inserted : Bool → Pairs → Result Pairs JsonError
inserted fits m = if fits then Ok m else Err TooLarge

-- a map with a pair at its end: its key must be above all, and then the pair must fit
abbrev pub put_last : Rule → Order → Pairs → Bytes → Bytes → Result Pairs JsonError
put_last rule order m k v = if is_above order m k
    then inserted (pair_fits rule m k v) (m ++ (k, v) ∷ []) else Err KeyOrder

-- why a map refuses a pair
abbrev pub refusal_of : MapError → JsonError
refusal_of MapTooLarge = TooLarge
refusal_of MapMemory = Memory

module _ (rule : Rule) (order : Order) (of_name : Bytes → Option Bytes)
    (of_key of_value : Data → Result Bytes JsonError) where
  -- the map m, with the pairs of members inserted one after another
  abbrev pub members_in : Pairs → Members → Result Pairs JsonError
  members_in m ms = members_taken of_name (λ n k d. and_then (of_value d) (λ v.
      inserted (fits rule order n k v) (insert_entry order n k v))) m ms

  -- the map m, with the pairs of an array put at its end one after another
  abbrev pub pairs_in : Pairs → List Data → Result Pairs JsonError
  pairs_in m [] = Ok m
  pairs_in m (d ∷ ds) = and_then (items_in d) (of_two (λ x y. and_then (of_key x) (λ k.
      and_then (of_value y) (λ v. and_then (put_last rule order m k v) (λ n. pairs_in n ds)))))

  -- what an object is read as, its keys having names or not
  abbrev pub object_in : Bool → Members → Result Pairs JsonError
  object_in named no_members = Ok []
  object_in named (member name d ms) =
      if named then members_in [] (member name d ms) else Err Shape

  -- the map that a value is
  abbrev pub map_in : Bool → Data → Result Pairs JsonError
  map_in named null = Err Shape
  map_in named (boolean b) = Err Shape
  map_in named (number n) = Err Shape
  map_in named (string s) = Err Shape
  map_in named (array ds) = pairs_in [] (list_of ds)
  map_in named (object ms) = object_in named ms

-- by each rule whose lists take them all, keys and values are those of the map that members are
-- read as
abbrev pub AreColumnsOf : Order → (Bytes → Option Bytes) → (Data → Result Bytes JsonError) →
    (Data → Result Bytes JsonError) → Members → List Bytes → List Bytes → Type 0
AreColumnsOf order of_name of_key of_value ms ks vs = (rule : Rule) →
    takes_pushes rule.takes_key [] ks ≡ true → takes_pushes rule.takes_value [] vs ≡ true →
    members_in rule order of_name of_key of_value [] ms ≡ Ok (zip ks vs)
