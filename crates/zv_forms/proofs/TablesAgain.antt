-- Hash tables that are written and read again.
use Rattle.std.proofs.Common.{◌≡◌, ℕ, ◌<◌, ◌^◌, List, [], ◌∷◌, length, map, Bool, Option, Some, None, Result}
use Rattle.std.proofs.Common.{Ok, refl, sym, ap, ◌∙◌, arith}
use Rattle.std.proofs.lemmas.Bool.Decides.{nat_tests}
use Rattle.std.proofs.lemmas.Grind.{common_steps}
use Rattle.std.specs.List.{AllByRecursion}
use Rattle.serde_json.specs.Data.{Data}
use Rattle.zv_hashmap.specs.Table.{parts_fault}
use Rattle.zv_json.specs.Again.{AreElements, EachAlike, IsAgain, ReadsAgain, list_again, then_again}
use Rattle.zv_json.specs.Arrays.{array_written, list_in}
use Rattle.zv_json.specs.Back.{array_items, list_back, split}
use Rattle.zv_json.specs.Json.{items_in}
use Rattle.zv_json.specs.declared.error.JsonError.{JsonError}
use Rattle.zv_map.specs.Keys.{IsElementOf}
use Rattle.zv_map1.specs.Views.{Bytes}
use Rattle.zv_owned.specs.Size.{takes_pushes}
use Rattle.zv_ule.specs.declared.error.UleError.{UleError}
use Rattle.zv_forms.specs.Again.{TableAlike}
use Rattle.zv_forms.specs.Tables.{container_in, counted, pushed, table_in, table_written}
use Rattle.zv_forms.proofs.Objects.{unless_large}

-- elements of a kind, as zv_json says it
pub elements_are : (fault : Bytes → Option UleError) (xs : List Bytes) → AllByRecursion (IsElementOf fault) xs → AreElements fault xs
elements_are fault [] h = tt
elements_are fault (x ∷ xs) h = ((h.0.bytes, h.0.valid), elements_are fault xs h.1)

-- a list is read as one of as many elements
same_length : (alike : Bytes → Bytes → Type 0) (xs ys : List Bytes) → EachAlike alike xs ys → length ys ≡ length xs
same_length alike [] [] h = refl
same_length alike [] (y ∷ ys) h = absurd h
same_length alike (x ∷ xs) [] h = absurd h
same_length alike (x ∷ xs) (y ∷ ys) h = omega (arith, same_length alike xs ys h.1)

-- the three vectors of an array that was written
record AreThree (a b c : Option Data) (d : Data) : Type 0 where
  first : Data
  second : Data
  third : Data
  first_is : a ≡ Some first
  second_is : b ≡ Some second
  third_is : c ≡ Some third
  items : items_in d ≡ Ok (first ∷ second ∷ third ∷ [])

three_items : (a b c : Option Data) (d : Data) → array_written (a ∷ b ∷ c ∷ []) ≡ Some d → AreThree a b c d
three_items a b c d is =
    let i = array_items (a ∷ b ∷ c ∷ []) d is in
    let s = split a (b ∷ c ∷ []) i.items i.all in
    let t = split b (c ∷ []) s.rest s.rest_is in
    let u = split c [] t.rest t.rest_is in
    let none : [] ≡ u.rest = cc (u.rest_is) in
    let last : u.first ∷ [] ≡ t.rest = ap (λ ds. u.first ∷ ds) none ∙ u.both in
    let rest : t.first ∷ u.first ∷ [] ≡ s.rest = ap (λ ds. t.first ∷ ds) last ∙ t.both in
    let all : s.first ∷ t.first ∷ u.first ∷ [] ≡ i.items = ap (λ ds. s.first ∷ ds) rest ∙ s.both in
    record {
      first = s.first;
      second = t.first;
      third = u.first;
      first_is = s.first_is;
      second_is = t.first_is;
      third_is = u.first_is;
      items = i.items_are ∙ ap Ok (sym all);
    }

-- the elements of a container, if it takes them
module _ {fault : Bytes → Option UleError} (alike : Bytes → Bytes → Type 0) {written : Bytes → Option Data} (read : Data → Result Bytes JsonError)
    (again : ReadsAgain fault alike written read) where
  pub container_again : (takes : List Bytes → ℕ → Bool) (xs : List Bytes) (d : Data) → AllByRecursion (IsElementOf fault) xs →
      array_written (map written xs) ≡ Some d → IsAgain (EachAlike alike xs) (container_in takes read d)
  container_again takes xs d h is = then_again (EachAlike alike xs) (EachAlike alike xs) (list_in read d) (pushed takes)
      (list_again fault alike written read again xs d (elements_are fault xs h) is) (λ ys a. unless_large (EachAlike alike xs) (takes_pushes takes [] ys) ys a)

module _ {A : Type 0} {is_value : A → Type 0} {written : A → Option Data} {read : Data → Result A JsonError}
    (back : (v : A) (d : Data) → is_value v → written v ≡ Some d → read d ≡ Ok v) {kfault vfault : Bytes → Option UleError}
    (kalike valike : Bytes → Bytes → Type 0)
    {key value : Bytes → Option Data} (of_key of_value : Data → Result Bytes JsonError) (kagain : ReadsAgain kfault kalike key of_key)
    (vagain : ReadsAgain vfault valike value of_value) where
  counted_again : (ds : List A) (ks vs xs ys : List Bytes) → parts_fault (length ds) (length ks) (length vs) ≡ None → EachAlike kalike ks xs →
      EachAlike valike vs ys → IsAgain (TableAlike kalike valike ds ks vs) (counted ds xs ys)
  counted_again ds ks vs xs ys none k v = rw (same_length kalike ks xs k, same_length valike vs ys v, none) (refl, (k, v))

  pub table_again : (takes_key takes_value : List Bytes → ℕ → Bool) (ds : List A) (ks vs : List Bytes) (d : Data) → AllByRecursion is_value ds →
      AllByRecursion (IsElementOf kfault) ks → AllByRecursion (IsElementOf vfault) vs → parts_fault (length ds) (length ks) (length vs) ≡ None →
      table_written written key value ds ks vs ≡ Some d →
      IsAgain (TableAlike kalike valike ds ks vs) (table_in (list_in read) (container_in takes_key of_key) (container_in takes_value of_value) d)
  table_again takes_key takes_value ds ks vs d h hk hv none is =
      let i = three_items (array_written (map written ds)) (array_written (map key ks)) (array_written (map value vs)) d is in
      rw (i.items, list_back is_value written read back ds i.first h i.first_is)
      (then_again (EachAlike kalike ks) (TableAlike kalike valike ds ks vs) (container_in takes_key of_key i.second) _
      (container_again kalike of_key kagain takes_key ks i.second hk i.second_is) (λ xs k.
      then_again (EachAlike valike vs) (TableAlike kalike valike ds ks vs) (container_in takes_value of_value i.third) _
      (container_again valike of_value vagain takes_value vs i.third hv i.third_is) (λ ys v.
      counted_again ds ks vs xs ys none k v)))

-- lists that are those of a table have no fault
pub no_parts_fault : (ds ks vs : ℕ) → vs ≡ ks → ds ≡ ks → ks < 2 ^ 32 → parts_fault ds ks vs ≡ None
no_parts_fault ds ks vs v d few = grind (arith, nat_tests, common_steps)
