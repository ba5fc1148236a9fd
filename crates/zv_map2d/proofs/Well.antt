-- Changes keep a map well formed.
use Rattle.zv_map2d.proofs.Common.{◌≡◌, ◌<◌, List, [], ◌∷◌, length, Option, Some, None, subst, arith, IsTotalOrder, IsPlace, put_at, ℕ, ◌==◌, false, ◌∙◌}
use Rattle.zv_map2d.proofs.Common.{refl, remove, row_at, set_value_at, Pair}
use Rattle.std.proofs.lemmas.Bool.Decides.{nat_tests}
use Rattle.zv_map2d.proofs.Common.{AllByRecursion, Ordering, IsMap-insert_entry, IsMap-without_key, values_with, values_without, IsMap, values_of, look_up}
use Rattle.zv_map2d.proofs.Common.{insert_entry, Bytes, Order, Rows, IsWell, row, put, with_row, del, IfSome}
use Rattle.std.proofs.lemmas.List.Elements.{All-from_recursion}
use Rattle.std.proofs.lemmas.Map.Views.{IfSome-lookup_from_All}
use Rattle.std.specs.BTreeMap.{is_at}
use Rattle.std.specs.List.Sorted.{IsStrictlySortedBy}
use Rattle.std.specs.Option.{unwrap_or}
use Rattle.zv_map2d.specs.declared.place.Place.{Place}
use Rattle.zv_map2d.proofs.Places.{del_is, put_is}

module _ {X : Type 0} (Q : X → Type 0) where
  -- what holds of what each entry has holds of the values, and back
  pub values_all : {P : Bytes × X → Type 0} → ((e : Bytes × X) → P e → Q e.1) → (m : List (Bytes × X)) → AllByRecursion P m → AllByRecursion Q (values_of m)
  values_all f [] all = tt
  values_all f (e ∷ m) all = (f e all.0, values_all f m all.1)

  all_values : (m : List (Bytes × X)) → AllByRecursion Q (values_of m) → AllByRecursion (λ e. Q e.1) m
  all_values [] all = tt
  all_values (e ∷ m) all = (all.0, all_values m all.1)

-- what holds of each row holds of that of a key
pub look_up_holds : (order : Order) (Q : List (Bytes × Bytes) → Type 0) (m : Rows) (k : Bytes) → AllByRecursion Q (values_of m) → IfSome (look_up order m k) Q
look_up_holds order Q m k all = IfSome-lookup_from_All Q (is_at (order k)) m (All-from_recursion Q _ all)

-- or of no pairs
pub row_holds : (order : Bytes → Bytes → Ordering) (Q : List (Bytes × Bytes) → Type 0) (m : Rows) (k : Bytes) → AllByRecursion Q (values_of m) → Q [] →
    Q (row order m k)
row_holds order Q m k all none =
    let by : (o : Option (List (Bytes × Bytes))) → IfSome o Q → Q (unwrap_or o []) = elim [ None ↦ λ h. none | Some r ↦ λ h. h ] in
    by _ (look_up_holds order Q m k all)

-- a list with a key isn't empty
insert_entry_some : {X : Type 0} (order : Bytes → Bytes → Ordering) (m : List (Bytes × X)) (k : Bytes) (x : X) → 0 < length (insert_entry order m k x)
insert_entry_some order [] k x = omega arith
insert_entry_some order (e ∷ m) k x = grind arith

module _ {order0 order1 : Bytes → Bytes → Ordering} (total0 : IsTotalOrder order0) (total1 : IsTotalOrder order1) (m : Rows) (k0 : Bytes)
    (well : IsWell order0 order1 m) where
  abbrev IsFull : List (Bytes × Bytes) → Type 0
  IsFull r = (0 < length r) × IsMap order1 r

  -- the row of a key is ordered, be it empty
  pub row_ordered : IsMap order1 (row order0 m k0)
  unfolding IsStrictlySortedBy
  row_ordered = row_holds order0 (IsMap order1) m k0 (values_all (IsMap order1) (λ r h. h.1) m well.1) tt

  full_rows : AllByRecursion IsFull (values_of m)
  full_rows = values_all IsFull (λ r h. h) m well.1

  insert_row : (r : List (Bytes × Bytes)) → IsFull r → IsWell order0 order1 (insert_entry order0 m k0 r)
  insert_row r full = (IsMap-insert_entry total0 m k0 r well.0, all_values IsFull _ (values_with order0 m k0 IsFull r full full_rows))

  with_row_well : (r : List (Bytes × Bytes)) → IsMap order1 r → IsWell order0 order1 (with_row order0 m k0 r)
  with_row_well [] up = (IsMap-without_key total0 m k0 well.0, all_values IsFull _ (values_without order0 m k0 IsFull full_rows))
  with_row_well (p ∷ r) up = insert_row (p ∷ r) (omega arith, up)

  pub put_well : (k1 v : Bytes) → IsWell order0 order1 (put order0 order1 m k0 k1 v)
  put_well k1 v = insert_row _ (insert_entry_some order1 (row order0 m k0) k1 v, IsMap-insert_entry total1 (row order0 m k0) k1 v row_ordered)

  pub del_well : (k1 : Bytes) → IsWell order0 order1 (del order0 order1 m k0 k1)
  del_well k1 = with_row_well _ (IsMap-without_key total1 (row order0 m k0) k1 row_ordered)

-- the map of no pairs is well formed
pub none_well : (order0 order1 : Bytes → Bytes → Ordering) {m : Rows} → m ≡ [] → IsWell order0 order1 m
unfolding IsStrictlySortedBy
none_well order0 order1 e = rw e (tt, tt)

-- a change at the place of a pair of keys keeps a map well formed
module _ {order0 order1 : Order} (total0 : IsTotalOrder order0) (total1 : IsTotalOrder order1) (m : Rows) (k0 k1 : Bytes) (well : IsWell order0 order1 m)
    (p : Place) (at : IsPlace order0 order1 m k0 k1 p) where
  pub put_at_well : (v : Bytes) → IsWell order0 order1 (put_at m k0 k1 v p)
  put_at_well v = subst (IsWell order0 order1) (put_is total0 total1 m k0 k1 v p at) (put_well total0 total1 m k0 well k1 v)

-- and so does a removal there
module _ {order0 order1 : Order} (total0 : IsTotalOrder order0) (total1 : IsTotalOrder order1) (m : Rows) (k0 k1 : Bytes) (well : IsWell order0 order1 m)
    (i j : ℕ) (at : IsPlace order0 order1 m k0 k1 (Pair i j)) where
  -- of a row's only pair
  module _ (one : length (row_at m i) ≡ 1) where
    pub row_gone : del order0 order1 m k0 k1 ≡ remove m i
    row_gone = del_is total0 total1 m k0 k1 well (Pair i j) at ∙ rw one refl

    pub row_gone_well : IsWell order0 order1 (remove m i)
    row_gone_well = subst (IsWell order0 order1) row_gone (del_well total0 total1 m k0 well k1)

  -- of one of others
  module _ (others : length (row_at m i) ≡ 1 → ⊥) where
    pub pair_gone : del order0 order1 m k0 k1 ≡ set_value_at m i (remove (row_at m i) j)
    pair_gone =
        let test : (length (row_at m i) == 1) ≡ false = grind (arith, nat_tests) in
        del_is total0 total1 m k0 k1 well (Pair i j) at ∙ rw test refl

    pub pair_gone_well : IsWell order0 order1 (set_value_at m i (remove (row_at m i) j))
    pair_gone_well = subst (IsWell order0 order1) pair_gone (del_well total0 total1 m k0 well k1)
