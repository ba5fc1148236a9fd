-- Arrays of pairs that are written and read again.
use Rattle.std.proofs.Common.{◌≡◌, ℕ, zero, suc, ◌-◌, List, [], ◌∷◌, ◌++◌, length, map, true, Option, Some}
use Rattle.std.proofs.Common.{Result, Ok, refl, sym, ap, ◌∙◌}
use Rattle.std.proofs.Common.{subst, append_assoc, append-nil}
use Rattle.std.specs.Cmp.{IsTotalOrder, alike_right}
use Rattle.std.specs.List.{AllByRecursion, slice_get}
use Rattle.std.specs.Option.{option_map_or}
use Rattle.std.specs.Ordering.{is_lt}
use Rattle.std.specs.declared.cmp.Ordering.TheVariants.{Equal}
use Rattle.serde_json.specs.Data.{Data}
use Rattle.zv_json.specs.Again.{IsAgain, then_again}
use Rattle.zv_json.specs.Arrays.{all_written, array_written}
use Rattle.zv_json.specs.Back.{array_items, split}
use Rattle.zv_json.specs.Json.{and_then, items_in}
use Rattle.zv_json.specs.declared.error.JsonError.{JsonError}
use Rattle.zv_map1.specs.Fits.{Rule, pair_fits}
use Rattle.zv_map1.specs.Views.{Bytes, Order, Pairs, keys_of}
use Rattle.zv_forms.specs.Again.{EntriesAlike}
use Rattle.zv_forms.specs.Maps.{pair_written, pairs_in, put_last}
use Rattle.zv_forms.proofs.Members.{AreAfter, AreInOrder, after_more, after_none}
use Rattle.zv_forms.proofs.Objects.{unless_large}
use Rattle.zv_forms.proofs.Rearranged.{AreBelow}

-- two items that were written
record AreTwo (a b : Option Data) (d : Data) : Type 0 where
  first : Data
  second : Data
  first_is : a ≡ Some first
  second_is : b ≡ Some second
  items : items_in d ≡ Ok (first ∷ second ∷ [])

two_items : (a b : Option Data) (d : Data) → array_written (a ∷ b ∷ []) ≡ Some d → AreTwo a b d
two_items a b d is =
    let i = array_items (a ∷ b ∷ []) d is in
    let s = split a (b ∷ []) i.items i.all in
    let t = split b [] s.rest s.rest_is in
    let none : [] ≡ t.rest = cc (t.rest_is) in
    let rest : t.first ∷ [] ≡ s.rest = ap (λ ds. t.first ∷ ds) none ∙ t.both in
    let all : s.first ∷ t.first ∷ [] ≡ i.items = ap (λ ds. s.first ∷ ds) rest ∙ s.both in
    record { first = s.first; second = t.first; first_is = s.first_is; second_is = t.first_is; items = i.items_are ∙ ap Ok (sym all) }

-- where all keys are below k, so is the last
above_all : (order : Order) (m : Pairs) (k : Bytes) (i : ℕ) → AreBelow order m k →
    option_map_or (λ last. is_lt (order last k)) (slice_get (keys_of m) i) true ≡ true
above_all order [] k i h = refl
above_all order (e ∷ m) k zero h = ap is_lt h.0
above_all order (e ∷ m) k (suc i) h = above_all order m k i h.1

module _ {order : Order} (total : IsTotalOrder order) (key value : Bytes → Option Data) (IsEntry : Bytes × Bytes → Type 0) (keys alike : Bytes → Bytes → Type 0)
    (tied : (a x : Bytes) → keys a x → order a x ≡ Equal) (of_name : Bytes → Option Bytes) (of_key of_value : Data → Result Bytes JsonError)
    (key_again : (e : Bytes × Bytes) (d : Data) → IsEntry e → key e.0 ≡ Some d → IsAgain (keys e.0) (of_key d))
    (value_again : (e : Bytes × Bytes) (d : Data) → IsEntry e → value e.1 ≡ Some d → IsAgain (alike e.1) (of_value d)) (rule : Rule) where
  abbrev PairsAlike : Pairs → Pairs → Type 0
  PairsAlike m n = EntriesAlike keys alike m n

  below_alike : (m n : Pairs) (k x : Bytes) → PairsAlike m n → AreBelow order m k → keys k x → AreBelow order n x
  below_alike [] [] k x h below same = tt
  below_alike [] (f ∷ n) k x h below same = absurd h
  below_alike (e ∷ m) [] k x h below same = absurd h
  below_alike (e ∷ m) (f ∷ n) k x h below same =
      (sym (total.congr e.0 f.0 x (tied e.0 f.0 h.0)) ∙ sym (alike_right total k x e.0 (tied k x same)) ∙ below.0, below_alike m n k x h.1.1 below.1 same)

  alike_end : (m n : Pairs) (e f : Bytes × Bytes) → PairsAlike m n → keys e.0 f.0 → alike e.1 f.1 → PairsAlike (m ++ e ∷ []) (n ++ f ∷ [])
  alike_end [] [] e f h k v = (k, (v, tt))
  alike_end [] (g ∷ n) e f h k v = absurd h
  alike_end (d ∷ m) [] e f h k v = absurd h
  alike_end (d ∷ m) (g ∷ n) e f h k v = (h.0, (h.1.0, alike_end m n e f h.1.1 k v))

  put_alike : (m n : Pairs) (e f : Bytes × Bytes) → PairsAlike m n → AreBelow order m e.0 → keys e.0 f.0 → alike e.1 f.1 →
      IsAgain (PairsAlike (m ++ e ∷ [])) (put_last rule order n f.0 f.1)
  put_alike m n e f h below k v =
      rw (above_all order n f.0 (length n - 1) (below_alike m n e.0 f.0 h below k))
      (unless_large (PairsAlike (m ++ e ∷ [])) (pair_fits rule n f.0 f.1) (n ++ f ∷ []) (alike_end m n e f h k v))

  read_from : (m n rest : Pairs) (ds : List Data) → PairsAlike m n → AreAfter order m rest → AreInOrder order rest → AllByRecursion IsEntry rest →
      all_written (map (pair_written key value) rest) ≡ Some ds → IsAgain (PairsAlike (m ++ rest)) (pairs_in rule order of_name of_key of_value n ds)
  read_from m n [] ds h after up all is =
      let none : [] ≡ ds = cc in
      subst (λ xs. IsAgain (PairsAlike (m ++ [])) (pairs_in rule order of_name of_key of_value n xs)) none (subst (λ z. PairsAlike z n) (sym (append-nil m)) h)
  read_from m n (e ∷ rest) ds h after up all is =
      let s = split (pair_written key value e) (map (pair_written key value) rest) ds is in
      let two = two_items (key e.0) (value e.1) s.first s.first_is in
      subst (λ xs. IsAgain (PairsAlike (m ++ e ∷ rest)) (pairs_in rule order of_name of_key of_value n xs)) s.both
      (rw two.items
      (then_again (keys e.0) (PairsAlike (m ++ e ∷ rest)) (of_key two.first) _ (key_again e two.first all.0 two.first_is) (λ x k.
      then_again (alike e.1) (PairsAlike (m ++ e ∷ rest)) (of_value two.second) _ (value_again e two.second all.0 two.second_is) (λ y v.
      then_again (PairsAlike (m ++ e ∷ [])) (PairsAlike (m ++ e ∷ rest)) (put_last rule order n x y) _ (put_alike m n e (x, y) h after.0 k v) (λ z a.
      subst (λ l. IsAgain (PairsAlike l) (pairs_in rule order of_name of_key of_value z s.rest)) (append_assoc m (e ∷ []) rest)
      (read_from (m ++ e ∷ []) z rest s.rest a (after_more order m rest e after.1 up.0) up.1 all.1 s.rest_is))))))

  pub array_again : (m : Pairs) (d : Data) → AreInOrder order m → AllByRecursion IsEntry m → array_written (map (pair_written key value) m) ≡ Some d →
      IsAgain (PairsAlike m) (and_then (items_in d) (pairs_in rule order of_name of_key of_value []))
  array_again m d up all is =
      let i = array_items (map (pair_written key value) m) d is in
      rw i.items_are (read_from [] [] m i.items tt (after_none order m) up all i.all)
