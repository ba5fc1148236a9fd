-- Maps that are written and read again.
use Rattle.std.proofs.Common.{◌≡◌, List, [], ◌∷◌, ◌<◌, length, map, Bool, true, false, ◌==◌, ◌&&◌, not, arith, is_none, Option, Some, None, Result, refl, subst}
use Rattle.std.proofs.lemmas.Bool.Decides.{nat_tests}
use Rattle.std.specs.Cmp.{IsTotalOrder}
use Rattle.std.specs.List.{AllByRecursion, flat_map}
use Rattle.std.specs.Option.{option_map}
use Rattle.serde_json.specs.Data.{Data, Members, no_members, member, null, boolean, number, string, array, object}
use Rattle.zv_json.specs.Again.{IsAgain, ReadsAgain}
use Rattle.zv_json.specs.Arrays.{all_written, array_written}
use Rattle.zv_json.specs.Json.{and_then, array_of, items_in}
use Rattle.zv_json.specs.declared.error.JsonError.{JsonError}
use Rattle.zv_map.specs.Keys.{IsElementOf}
use Rattle.zv_map.specs.Maps.{IsMap, keys_of, values_of}
use Rattle.zv_map1.specs.Fits.{Rule, fits}
use Rattle.zv_map1.specs.Views.{Bytes, Order, Pairs}
use Rattle.zv_map2d.specs.Elements.{AreElements}
use Rattle.zv_map2d.specs.Fits.{Rule as RowsRule, fits as fits2d}
use Rattle.zv_map2d.specs.Refusals.{is_full}
use Rattle.zv_map2d.specs.Rows.{IsWell, Rows, find, values}
use Rattle.zv_ule.specs.Bytes.{IsBytes}
use Rattle.zv_ule.specs.declared.error.UleError.{UleError}
use Rattle.zv_forms.specs.Again.{AlikeIsEqual, EntriesAlike, RowsAlike, SameKeys}
use Rattle.zv_forms.specs.Maps.{map_in, map_written, members_in, members_written, pair_written, pairs_in}
use Rattle.zv_forms.specs.Maps2d.{object_in, row_written, rows_in, rows_written}
use Rattle.zv_forms.proofs.Arrays.{array_again}
use Rattle.zv_forms.proofs.Members.{AreInOrder, in_order, split_all}
use Rattle.zv_forms.proofs.Objects.{pairs_again, rows_again}

-- the keys and the values of entries
each_entry : (P Q : Bytes → Type 0) (m : Pairs) → AllByRecursion P (keys_of m) → AllByRecursion Q (values_of m) → AllByRecursion (λ e. P e.0 × Q e.1) m
each_entry P Q [] ks vs = tt
each_entry P Q (e ∷ m) ks vs = ((ks.0, vs.0), each_entry P Q m ks.1 vs.1)

-- the members of an object that was written
record IsObject (written : Option Members) (d : Data) : Type 0 where
  members : Members
  all : written ≡ Some members
  is : object members ≡ d

object_back : (o : Option Members) (d : Data) → option_map object o ≡ Some d → IsObject o d
object_back None d e = cc
object_back (Some ms) d e = record { members = ms; all = refl; is = cc }

-- an object is read as a map by its members, where keys have names
read_named : (rule : Rule) (order : Order) (of_name : Bytes → Option Bytes) (of_key of_value : Data → Result Bytes JsonError) (ms : Members) →
    members_in rule order of_name of_key of_value [] ms ≡ map_in rule order of_name of_key of_value true (object ms)
read_named rule order of_name of_key of_value no_members = refl
read_named rule order of_name of_key of_value (member l d ms) = refl

no_object : (o : Option (List Data)) (ms : Members) → option_map array_of o ≡ Some (object ms) → ⊥
no_object None ms e = cc
no_object (Some ds) ms e = cc

-- an array that was written is read as a map by its items
read_items : (rule : Rule) (order : Order) (of_name : Bytes → Option Bytes) (of_key of_value : Data → Result Bytes JsonError) (named : Bool)
    (xs : List (Option Data)) (d : Data) → array_written xs ≡ Some d →
    and_then (items_in d) (pairs_in rule order of_name of_key of_value []) ≡ map_in rule order of_name of_key of_value named d
read_items rule order of_name of_key of_value named xs null is = refl
read_items rule order of_name of_key of_value named xs (boolean b) is = refl
read_items rule order of_name of_key of_value named xs (number n) is = refl
read_items rule order of_name of_key of_value named xs (string t) is = refl
read_items rule order of_name of_key of_value named xs (array ds) is = refl
read_items rule order of_name of_key of_value named xs (object ms) is = absurd (no_object (all_written xs) ms is)

module _ {order : Order} (total : IsTotalOrder order) {fault : Bytes → Option UleError} {name of_name : Bytes → Option Bytes}
    (named : (e l : Bytes) → IsBytes e → fault e ≡ None → name e ≡ Some l → of_name l ≡ Some e)
    {vfault : Bytes → Option UleError} (alike : Bytes → Bytes → Type 0) {value : Bytes → Option Data} (read : Data → Result Bytes JsonError)
    (again : ReadsAgain vfault alike value read) where
  abbrev IsEntry : Bytes × Bytes → Type 0
  IsEntry e = IsElementOf fault e.0 × IsElementOf vfault e.1

  key_named : (e : Bytes × Bytes) (l : Bytes) → IsEntry e → name e.0 ≡ Some l → of_name l ≡ Some e.0
  key_named e l h n = named e.0 l h.0.bytes h.0.valid n

  value_again : (e : Bytes × Bytes) (d : Data) → IsEntry e → value e.1 ≡ Some d → IsAgain (alike e.1) (read d)
  value_again e d h v = again e.1 d h.1.bytes h.1.valid v

  pub named_map_again : (rule : Rule) (key : Bytes → Option Data) (of_key : Data → Result Bytes JsonError) (b : Bool) (m : Pairs) (d : Data) → b ≡ true →
      IsMap order m → AllByRecursion (IsElementOf fault) (keys_of m) → AllByRecursion (IsElementOf vfault) (values_of m) →
      map_written b name key value m ≡ Some d → IsAgain (SameKeys alike m) (map_in rule order of_name of_key read b d)
  named_map_again rule key of_key false m d e up ks vs is = cc
  named_map_again rule key of_key true m d e up ks vs is =
      let o = object_back (members_written name value no_members m) d is in
      subst (λ c. IsAgain (SameKeys alike m) (map_in rule order of_name of_key read true c)) o.is
      (subst (IsAgain (SameKeys alike m)) (read_named rule order of_name of_key read o.members)
      (pairs_again total name of_name value IsEntry key_named alike read value_again (fits rule order) m o.members (in_order order m up)
      (each_entry (IsElementOf fault) (IsElementOf vfault) m ks vs) o.all))

  pub other_map_again : (kalike : Bytes → Bytes → Type 0) {key : Bytes → Option Data} (of_key : Data → Result Bytes JsonError) →
      ReadsAgain fault kalike key of_key → AlikeIsEqual kalike order → (rule : Rule) (b : Bool) (m : Pairs) (d : Data) → b ≡ false → IsMap order m →
      AllByRecursion (IsElementOf fault) (keys_of m) → AllByRecursion (IsElementOf vfault) (values_of m) → map_written b name key value m ≡ Some d →
      IsAgain (EntriesAlike kalike alike m) (map_in rule order of_name of_key read b d)
  other_map_again kalike of_key kagain tied rule true m d e up ks vs is = cc
  other_map_again kalike of_key kagain tied rule false [] d e up ks vs is =
      let same : object no_members ≡ d = cc in subst (λ c. IsAgain (EntriesAlike kalike alike []) (map_in rule order of_name of_key read false c)) same tt
  other_map_again kalike {key} of_key kagain tied rule false (f ∷ m) d e up ks vs is =
      let some : (length (f ∷ m) == 0) ≡ false = grind (arith, nat_tests) in
      let array : array_written (map (pair_written key value) (f ∷ m)) ≡ Some d = rw some at is in
      subst (IsAgain (EntriesAlike kalike alike (f ∷ m))) (read_items rule order of_name of_key read false (map (pair_written key value) (f ∷ m)) d array)
      (array_again total key value IsEntry kalike alike tied of_name of_key read (λ x c h w. kagain x.0 c h.0.bytes h.0.valid w) value_again rule (f ∷ m) d
      (in_order order (f ∷ m) up) (each_entry (IsElementOf fault) (IsElementOf vfault) (f ∷ m) ks vs) array)

  -- a row of a map in two levels
  module _ {order0 : Order} (total0 : IsTotalOrder order0) {fault0 : Bytes → Option UleError} {name0 of_name0 : Bytes → Option Bytes}
      (named0 : (e l : Bytes) → IsBytes e → fault0 e ≡ None → name0 e ≡ Some l → of_name0 l ≡ Some e) where
    record IsRowOf (r : Bytes × Pairs) : Type 0 where
      key : IsElementOf fault0 r.0
      some : 0 < length r.1
      ordered : AreInOrder order r.1
      entries : AllByRecursion IsEntry r.1

    rows_are : (m : Rows) → AllByRecursion (IsElementOf fault0) (keys_of m) → AllByRecursion (λ r. (0 < length r.1) × IsMap order r.1) m →
        AllByRecursion (IsElementOf fault) (flat_map (λ r. keys_of r.1) m) → AllByRecursion (IsElementOf vfault) (values m) → AllByRecursion IsRowOf m
    rows_are [] k0s rows k1s vs = tt
    rows_are (r ∷ m) k0s rows k1s vs =
        let ks = split_all (IsElementOf fault) (keys_of r.1) (flat_map (λ s. keys_of s.1) m) k1s in
        let xs = split_all (IsElementOf vfault) (values_of r.1) (values m) vs in (
          record {
            key = k0s.0;
            some = rows.0.0;
            ordered = in_order order r.1 rows.0.1;
            entries = each_entry (IsElementOf fault) (IsElementOf vfault) r.1 ks.0 xs.0;
          },
          rows_are m k0s.1 rows.1 ks.1 xs.1,
        )

    pub map2d_again : (rule : RowsRule) (m : Rows) (d : Data) → IsWell order0 order m → AreElements fault0 fault m →
        AllByRecursion (IsElementOf vfault) (values m) → rows_written name0 name value m ≡ Some d →
        IsAgain (RowsAlike alike m) (and_then (object_in d) (rows_in rule order0 order of_name0 of_name read []))
    map2d_again rule m d well keys vs is =
        let o = object_back (members_written name0 (row_written name value) no_members m) d is in
        subst (λ c. IsAgain (RowsAlike alike m) (and_then (object_in c) (rows_in rule order0 order of_name0 of_name read []))) o.is
        (rows_again total name of_name value IsEntry key_named alike read value_again total0 name0 of_name0 IsRowOf
        (λ r l h n. named0 r.0 l h.key.bytes h.key.valid n) (λ r h. h.some) (λ r h. h.ordered) (λ r h. h.entries)
        (λ n k0 k1 v. fits2d rule order0 order n k0 k1 v && not (is_none (find order0 order n k0 k1) && is_full n)) m o.members (in_order order0 m well.0)
        (rows_are m keys.firsts well.1 keys.seconds vs) o.all)
