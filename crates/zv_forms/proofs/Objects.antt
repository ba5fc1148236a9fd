-- Objects of pairs, and objects of rows, that are written and read again.
use Rattle.std.proofs.Common.{◌≡◌, [], ◌∷◌, Bool, true, false, Option, Some, None, Result, Ok, Err, refl, sym, ◌∙◌, subst, ◌<◌, length, unwrap_or}
use Rattle.std.proofs.Common.{if◌then◌else◌, arith}
use Rattle.std.proofs.lemmas.Cmp.{tied_itself}
use Rattle.std.specs.Cmp.{IsTotalOrder}
use Rattle.std.specs.List.{AllByRecursion}
use Rattle.std.specs.Option.{option_map}
use Rattle.std.specs.Ordering.{match_ordering}
use Rattle.std.specs.declared.cmp.Ordering.{Ordering}
use Rattle.std.specs.declared.cmp.Ordering.TheVariants.{Less, Equal, Greater}
use Rattle.serde_json.specs.Data.{Data, Members, no_members, object}
use Rattle.zv_json.specs.Again.{IsAgain, then_again}
use Rattle.zv_json.specs.Json.{and_then}
use Rattle.zv_json.specs.declared.error.JsonError.{JsonError}
use Rattle.zv_json.specs.declared.error.JsonError.TheVariants.{TooLarge}
use Rattle.zv_map.proofs.Places.{look_up-insert_entry}
use Rattle.zv_map.specs.Maps.{insert_entry, look_up}
use Rattle.zv_map1.specs.Views.{Bytes, Order, Pairs}
use Rattle.zv_map2d.specs.Rows.{Rows, put, row}
use Rattle.zv_forms.specs.Again.{RowsAlike, SameKeys}
use Rattle.zv_forms.specs.Maps.{members_taken, members_written}
use Rattle.zv_forms.specs.Maps2d.{object_in, row_written}
use Rattle.zv_forms.proofs.Alike.{found_or_alike, insert_alike, insert_twice}
use Rattle.zv_forms.proofs.Members.{AreInOrder, members_again}

-- what fits, or too large
pub unless_large : {A : Type 0} (P : A → Type 0) (fits : Bool) (a : A) → P a → IsAgain P (if fits then Ok a else Err TooLarge)
unless_large P true a p = p
unless_large P false a p = refl

-- one level
module _ {order : Order} (total : IsTotalOrder order) (name of_name : Bytes → Option Bytes) (value : Bytes → Option Data)
    (IsEntry : Bytes × Bytes → Type 0) (named : (e : Bytes × Bytes) (l : Bytes) → IsEntry e → name e.0 ≡ Some l → of_name l ≡ Some e.0)
    (alike : Bytes → Bytes → Type 0) (read : Data → Result Bytes JsonError)
    (again : (e : Bytes × Bytes) (d : Data) → IsEntry e → value e.1 ≡ Some d → IsAgain (alike e.1) (read d)) where
  pub pairs_again : (fits : Pairs → Bytes → Bytes → Bool) (m : Pairs) (ms : Members) → AreInOrder order m → AllByRecursion IsEntry m →
      members_written name value no_members m ≡ Some ms →
      IsAgain (SameKeys alike m)
      (members_taken of_name (λ n k d. and_then (read d) (λ v. if fits n k v then Ok (insert_entry order n k v) else Err TooLarge)) [] ms)
  pairs_again fits m ms up all is = members_again total name of_name value IsEntry named (SameKeys alike) _ taken [] m ms tt up all is
    where
      taken : (z n : Pairs) (e : Bytes × Bytes) (d : Data) → SameKeys alike z n → IsEntry e → look_up order z e.0 ≡ None → value e.1 ≡ Some d →
          IsAgain (SameKeys alike (insert_entry order z e.0 e.1))
          (and_then (read d) (λ v. if fits n e.0 v then Ok (insert_entry order n e.0 v) else Err TooLarge))
      taken z n e d h entry new v = then_again (alike e.1) (SameKeys alike (insert_entry order z e.0 e.1)) (read d) _ (again e d entry v)
          (λ y a. unless_large _ (fits n e.0 y) _ (insert_alike order alike z n e.0 e.1 y h a))

  -- two levels: this is the inner one
  module _ {order0 : Order} (total0 : IsTotalOrder order0) (name0 of_name0 : Bytes → Option Bytes)
      (IsRow : Bytes × Pairs → Type 0) (named0 : (r : Bytes × Pairs) (l : Bytes) → IsRow r → name0 r.0 ≡ Some l → of_name0 l ≡ Some r.0)
      (some : (r : Bytes × Pairs) → IsRow r → 0 < length r.1) (ordered : (r : Bytes × Pairs) → IsRow r → AreInOrder order r.1)
      (entries : (r : Bytes × Pairs) → IsRow r → AllByRecursion IsEntry r.1)
      (fits : Rows → Bytes → Bytes → Bytes → Bool) where
    -- a map with a row, unless that is empty
    abbrev with : Rows → Bytes → Pairs → Rows
    with z k [] = z
    with z k (p ∷ ps) = insert_entry order0 z k (p ∷ ps)

    abbrev put_in : Rows → Bytes → Bytes → Bytes → Result Rows JsonError
    put_in m k0 k1 v = if fits m k0 k1 v then Ok (put order0 order m k0 k1 v) else Err TooLarge

    row_of_with : (z : Rows) (k : Bytes) (r : Pairs) → look_up order0 z k ≡ None → unwrap_or (look_up order0 (with z k r) k) [] ≡ r
    row_of_with z k [] new = rw new refl
    row_of_with z k (p ∷ r) new = rw (look_up-insert_entry total0 z k k (p ∷ r), tied_itself total0 k) refl

    onto_with : (z : Rows) (k : Bytes) (r s : Pairs) → insert_entry order0 (with z k r) k s ≡ insert_entry order0 z k s
    onto_with z k [] s = refl
    onto_with z k (p ∷ r) s = insert_twice total0 z k (p ∷ r) s

    with_insert : (z : Rows) (k0 k1 v : Bytes) (r : Pairs) → with z k0 (insert_entry order r k1 v) ≡ insert_entry order0 z k0 (insert_entry order r k1 v)
    with_insert z k0 k1 v [] = refl
    with_insert z k0 k1 v (p ∷ r) = go (order k1 p.0)
      where
        go : (o : Ordering) → with z k0 (match_ordering o ((k1, v) ∷ p ∷ r) ((p.0, v) ∷ r) (p ∷ insert_entry order r k1 v))
            ≡ insert_entry order0 z k0 (match_ordering o ((k1, v) ∷ p ∷ r) ((p.0, v) ∷ r) (p ∷ insert_entry order r k1 v))
        go Less = refl
        go Equal = refl
        go Greater = refl

    with_some : (z : Rows) (k : Bytes) (r : Pairs) → 0 < length r → with z k r ≡ insert_entry order0 z k r
    with_some z k [] h = absurd (omega arith)
    with_some z k (p ∷ r) h = refl

    -- one more pair of the row
    pair_taken : (z : Rows) (k0 : Bytes) → look_up order0 z k0 ≡ None → (r : Pairs) (m : Rows) (e : Bytes × Bytes) (d : Data) →
        RowsAlike alike (with z k0 r) m → IsEntry e → look_up order r e.0 ≡ None → value e.1 ≡ Some d →
        IsAgain (RowsAlike alike (with z k0 (insert_entry order r e.0 e.1))) (and_then (read d) (λ v. put_in m k0 e.0 v))
    pair_taken z k0 new r m e d h entry absent v =
        then_again (alike e.1) (RowsAlike alike (with z k0 (insert_entry order r e.0 e.1))) (read d) _ (again e d entry v) (λ y a.
        let rows : SameKeys alike (unwrap_or (look_up order0 (with z k0 r) k0) []) (row order0 m k0) =
        found_or_alike order0 (SameKeys alike) [] tt (with z k0 r) m k0 h in
        let here : SameKeys alike r (row order0 m k0) = subst (λ s. SameKeys alike s (row order0 m k0)) (row_of_with z k0 r new) rows in
        let longer = insert_alike order alike r (row order0 m k0) e.0 e.1 y here a in
        let all = insert_alike order0 (SameKeys alike) (with z k0 r) m k0 (insert_entry order r e.0 e.1)
        (insert_entry order (row order0 m k0) e.0 y) h longer in
        unless_large _ (fits m k0 e.0 y) _
        (subst (λ n. RowsAlike alike n (put order0 order m k0 e.0 y)) (onto_with z k0 r (insert_entry order r e.0 e.1) ∙ sym (with_insert z k0 e.0 e.1 r)) all))

    abbrev row_in : Bytes → Rows → Members → Result Rows JsonError
    row_in k0 m ms = members_taken of_name (λ n k1 d. and_then (read d) (λ v. put_in n k0 k1 v)) m ms

    abbrev row_taken : Rows → Bytes → Data → Result Rows JsonError
    row_taken m k0 d = and_then (object_in d) (λ row. row_in k0 m row)

    -- one more row
    next_row : (z m : Rows) (r : Bytes × Pairs) (d : Data) → RowsAlike alike z m → IsRow r → look_up order0 z r.0 ≡ None → row_written name value r.1 ≡ Some d →
        IsAgain (RowsAlike alike (insert_entry order0 z r.0 r.1)) (row_taken m r.0 d)
    next_row z m r d h is new w = go (members_written name value no_members r.1) refl w
      where
        go : (o : Option Members) → members_written name value no_members r.1 ≡ o → option_map object o ≡ Some d →
            IsAgain (RowsAlike alike (insert_entry order0 z r.0 r.1)) (row_taken m r.0 d)
        go None i e = cc
        go (Some ms) i e =
            let same : object ms ≡ d = cc in
            let read_row = members_again total name of_name value IsEntry named (λ s n. RowsAlike alike (with z r.0 s) n)
            (λ n k1 c. and_then (read c) (λ v. put_in n r.0 k1 v))
            (pair_taken z r.0 new) m r.1 ms h (ordered r is) (entries r is) i in
            subst (λ c. IsAgain (RowsAlike alike (insert_entry order0 z r.0 r.1)) (row_taken m r.0 c)) same
            (subst (λ n. IsAgain (RowsAlike alike n) (row_in r.0 m ms)) (with_some z r.0 r.1 (some r is)) read_row)

    pub rows_again : (m : Rows) (ms : Members) → AreInOrder order0 m → AllByRecursion IsRow m →
        members_written name0 (row_written name value) no_members m ≡ Some ms →
        IsAgain (RowsAlike alike m) (members_taken of_name0 row_taken [] ms)
    rows_again m ms up all is =
        members_again total0 name0 of_name0 (row_written name value) IsRow named0 (RowsAlike alike) row_taken next_row [] m ms tt up all is
