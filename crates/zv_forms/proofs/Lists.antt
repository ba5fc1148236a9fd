-- Lists, and members that have no names.
use Rattle.std.proofs.Common.{◌≡◌, ◌==◌, List, [], ◌∷◌, length, Bool, true, false, Option, Some, None, Result, Ok, Err, String, refl}
use Rattle.std.proofs.lemmas.List.{map-id}
use Rattle.std.specs.declared.alloc.Global.{Global}
use Rattle.serde_json.specs.Data.{Data}
use Rattle.serde_json.specs.View.{members_view}
use Rattle.serde_json.specs.declared.value.Value.{Value}
use Rattle.zv_forms.specs.Maps.{object_in}
use Rattle.zv_json.specs.Arrays.{array_written}
use Rattle.zv_json.specs.Json.{array_of, or_wide}
use Rattle.zv_json.specs.declared.error.JsonError.{JsonError}
use Rattle.zv_json.specs.declared.error.JsonError.TheVariants.{Shape}
use Rattle.zv_map1.specs.Fits.{Rule}
use Rattle.zv_map1.specs.Views.{Bytes, Order}

pub ruleset themselves = (map-id)

-- an object of members is no map whose keys have no names
pub unnamed : (rule : Rule) (order : Order) (of_name : Bytes → Option Bytes) (of_key of_value : Data → Result Bytes JsonError) (named : Bool)
    (es : List (String Global × Value))
    → named ≡ false → (length es == 0) ≡ false → object_in rule order of_name of_key of_value named (members_view es) ≡ Err Shape
unnamed rule order of_name of_key of_value true es e some = cc
unnamed rule order of_name of_key of_value false [] e some = cc
unnamed rule order of_name of_key of_value false (m ∷ es) e some = refl

-- three vectors, or the first that is too wide
pub three_written : (a b c : Option Data) (x y z : Data) → or_wide a ≡ Ok x → or_wide b ≡ Ok y → or_wide c ≡ Ok z
    → or_wide (array_written (a ∷ b ∷ c ∷ [])) ≡ Ok (array_of (x ∷ y ∷ z ∷ []))
three_written (Some a) (Some b) (Some c) x y z p q r = cc
three_written None b c x y z p q r = cc
three_written (Some a) None c x y z p q r = cc
three_written (Some a) (Some b) None x y z p q r = cc

pub second_wide : (a b c : Option Data) (x : Data) (e : JsonError) → or_wide a ≡ Ok x → or_wide b ≡ Err e → or_wide (array_written (a ∷ b ∷ c ∷ [])) ≡ Err e
second_wide None b c x e p q = cc
second_wide (Some a) None c x e p q = q
second_wide (Some a) (Some b) c x e p q = cc

pub third_wide : (a b c : Option Data) (x y : Data) (e : JsonError) → or_wide a ≡ Ok x → or_wide b ≡ Ok y → or_wide c ≡ Err e
    → or_wide (array_written (a ∷ b ∷ c ∷ [])) ≡ Err e
third_wide None b c x y e p q r = cc
third_wide (Some a) None c x y e p q r = cc
third_wide (Some a) (Some b) None x y e p q r = r
third_wide (Some a) (Some b) (Some c) x y e p q r = cc

pub ruleset three_vectors = (three_written, second_wide, third_wide)
