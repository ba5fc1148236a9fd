-- Two lists as the pairs of a map: what is at a place, and what a change at a place leaves.
use Rattle.zv_map1.proofs.Common.{List, Bytes, ℕ, length, ◌≡◌, zip, insert, zero, refl, [], suc, ◌∷◌, arith, ap, set, nth, remove, Order, IsStrictlySortedBy}
use Rattle.zv_map1.proofs.Common.{subst, sym, Bool, AreColumns, KindGhosts, OrdGhosts, ZeroMapBorrowed, keys_of, pairs_of, list_of, firsts-zip, values_of}
use Rattle.zv_map1.proofs.Common.{seconds-zip, length-zip, Vector, Map1, IsMap, Pairs, ◌∙◌, IsTotalOrder, IsGap, compared, insert_entry, insert_entry_gap, ◌≤◌}
use Rattle.zv_map1.proofs.Common.{gap_within, length-insert, IsMap-insert_entry, ◌<◌, length-remove, IsAt, own_place, without_key_at, IsMap-without_key}
use Rattle.zv_map1.proofs.Common.{length-set, length-map}

-- ---- changes of both lists

pub zip_insert : (ks vs : List Bytes) (i : ℕ) (k v : Bytes) → length vs ≡ length ks → zip (insert ks i k) (insert vs i v) ≡ insert (zip ks vs) i (k, v)
zip_insert ks vs zero k v e = refl
zip_insert [] [] (suc i) k v e = refl
zip_insert [] (w ∷ vs) (suc i) k v e = absurd (omega (arith, e))
zip_insert (x ∷ ks) [] (suc i) k v e = absurd (omega (arith, e))
zip_insert (x ∷ ks) (w ∷ vs) (suc i) k v e = ap (λ r. (x, w) ∷ r) (zip_insert ks vs i k v (omega (arith, e)))

pub zip_set : (ks vs : List Bytes) (i : ℕ) (v : Bytes) → zip ks (set vs i v) ≡ set (zip ks vs) i (nth ks i, v)
zip_set [] vs i v = refl
zip_set (k ∷ ks) [] i v = refl
zip_set (k ∷ ks) (w ∷ vs) zero v = refl
zip_set (k ∷ ks) (w ∷ vs) (suc i) v = ap (λ r. (k, w) ∷ r) (zip_set ks vs i v)

zip_none : (ks : List Bytes) → zip {K = Bytes} {X = Bytes} ks [] ≡ []
zip_none [] = refl
zip_none (k ∷ ks) = refl

pub zip_remove : (ks vs : List Bytes) (i : ℕ) → zip (remove ks i) (remove vs i) ≡ remove (zip ks vs) i
zip_remove [] vs zero = refl
zip_remove [] vs (suc i) = refl
zip_remove (k ∷ ks) [] zero = zip_none ks
zip_remove (k ∷ ks) [] (suc i) = refl
zip_remove (k ∷ ks) (w ∷ vs) zero = refl
zip_remove (k ∷ ks) (w ∷ vs) (suc i) = ap (λ r. (k, w) ∷ r) (zip_remove ks vs i)

-- the keys and the values of the pairs of two lists, and how many there are
pub ruleset parts = (firsts-zip, seconds-zip, length-zip)

-- the same after another value is set, or an element of each is removed
pub ruleset edited = (parts, zip_set, length-set, zip_remove, length-map)

-- no keys ascend
pub none_ascends : (order : Order) (ks : List Bytes) → ks ≡ [] → IsStrictlySortedBy order ks
unfolding IsStrictlySortedBy
none_ascends order ks e = subst (IsStrictlySortedBy order) (sym e) tt

-- ---- the lists of a borrowed map: its keys and its values

module _ {K V : Type 0} {key : KindGhosts K} {order : OrdGhosts K} {value : KindGhosts V} (b : ZeroMapBorrowed K V order key value) where
  pub keys_in : keys_of (pairs_of b) ≡ list_of b.keys
  keys_in = firsts-zip (list_of b.keys) (list_of b.values) (sym b.count)

  pub values_in : values_of (pairs_of b) ≡ list_of b.values
  values_in = seconds-zip (list_of b.keys) (list_of b.values) (sym b.count)

-- ---- the lists of a map that is seen: its keys, its values, and how many they are

module _ {usable_keys usable_values : Bool} {order : Order} {ks vs : List Bytes} {kv vv : Vector} {m : Map1}
    (view : record { pairs = zip ks vs; keys = kv; values = vv } ≡ m) (c : AreColumns usable_keys usable_values order ks vs) where
  pub keys_are : keys_of m.pairs ≡ ks
  keys_are = rw (← view) (firsts-zip ks vs c.count)

  pub count_is : length m.pairs ≡ length ks
  count_is = rw (← view) (omega (arith, length-zip ks vs, c.count))

  -- the pairs are a map
  pub ascend : IsMap order m.pairs
  ascend = rw keys_are c.ascending

  -- ---- what a change leaves

  -- columns of a list of pairs that is a map
  columns_of : {ks' vs' : List Bytes} {n : Pairs} → length vs' ≡ length ks' → zip ks' vs' ≡ n → IsMap order n →
      AreColumns usable_keys usable_values order ks' vs'
  columns_of count e up = record {
    keys = c.keys;
    values = c.values;
    count = count;
    ascending = subst (IsStrictlySortedBy order) (ap keys_of (sym e) ∙ firsts-zip _ _ count) up;
  }

  module _ (total : IsTotalOrder order) (i : ℕ) {ks' vs' : List Bytes} where
    module _ (k v : Bytes) (gap : IsGap (compared order (keys_of m.pairs) k) i) (p : ks' ≡ insert ks i k) (q : vs' ≡ insert vs i v) where
      pub pairs_inserted : zip ks' vs' ≡ insert_entry order m.pairs k v
      pairs_inserted = rw (p, q, insert_entry_gap total k m.pairs v i gap, ← view) (zip_insert ks vs i k v c.count)

      pub columns_with : AreColumns usable_keys usable_values order ks' vs'
      columns_with =
          let within : i ≤ length ks = omega (arith, gap_within order k m.pairs i gap, count_is) in
          let longer = length-insert vs i v (omega (arith, within, c.count)) in
          columns_of (omega (arith, ap length p, ap length q, length-insert ks i k within, longer, c.count)) pairs_inserted
          (IsMap-insert_entry total m.pairs k v ascend)

    module _ (h : i < length m.pairs) (p : ks' ≡ remove ks i) (q : vs' ≡ remove vs i) where
      pub pairs_removed : zip ks' vs' ≡ remove m.pairs i
      pairs_removed = rw (p, q, ← view) (zip_remove ks vs i)

      pub columns_without : AreColumns usable_keys usable_values order ks' vs'
      columns_without =
          let within : i < length ks = omega (arith, h, count_is) in
          let shorter = length-remove vs i (omega (arith, within, c.count)) in
          let at : IsAt (compared order (keys_of m.pairs) (nth ks i)) i = rw keys_are (own_place total ks c.ascending i within) in
          columns_of (omega (arith, ap length p, ap length q, length-remove ks i within, shorter, c.count))
          (pairs_removed ∙ sym (without_key_at total (nth ks i) m.pairs i at)) (IsMap-without_key total m.pairs (nth ks i) ascend)
