-- A key that is above all keys of a map, and a pair at the end.
use Rattle.zv_map1.proofs.Common.{Ordering, is_lt, ◌≡◌, true, Less, refl, Equal, Greater, is_gt, Order, IsTotalOrder, Bytes, Pairs, is_above, None, IsGap}
use Rattle.zv_map1.proofs.Common.{compared, keys_of, length, insert_entry, appended, insert_entry_gap, insert_end, IsMap, length-map, ◌<◌, ◌-◌, ap}
use Rattle.zv_map1.proofs.Common.{slice_get-get_or, [], arith, compared_at, ◌∙◌, look_up, look_up_gap, answer_at, sorted_rises, ordering_index}
use Rattle.zv_map1.proofs.Zipped.{parts}

less_of : (o : Ordering) → is_lt o ≡ true → o ≡ Less
less_of Less e = refl
less_of Equal e = cc
less_of Greater e = cc

module _ {order : Order} (total : IsTotalOrder order) where
  -- one comparison, from either side
  pub turned : (k last : Bytes) → is_gt (order k last) ≡ is_lt (order last k)
  turned k last = grind (arith, total.antisymm k last)

  -- a key that goes to the end is put there
  pub appended_is : (m : Pairs) (k v : Bytes) → is_above order m k ≡ true → IsGap (compared order (keys_of m) k) (length m) →
      insert_entry order m k v ≡ appended order m k v
  appended_is m k v above gap = rw (insert_entry_gap total k m v (length m) gap, insert_end m (k, v), above) refl

  module _ (m : Pairs) (k : Bytes) (up : IsMap order m) (above : is_above order m k ≡ true) where
    last_less : 0 < length m → answer_at (compared order (keys_of m) k) (length m - 1) ≡ Less
    last_less some =
        let within : length m - 1 < length (keys_of m) = simp length-map (omega arith) in
        compared_at order k (keys_of m) (length m - 1) within ∙ less_of _ (rw (slice_get-get_or (keys_of m) (length m - 1) [] within) at above)

    -- a key that is above all goes to the end
    pub gap_at_end : IsGap (compared order (keys_of m) k) (length m)
    gap_at_end =
        let many : length (compared order (keys_of m) k) ≡ length m = simp length-map in
        let rises = sorted_rises total k (keys_of m) up in record {
          within = omega arith;
          less = λ j h. grind (arith, ap ordering_index (last_less (omega arith)), rises j (length m - 1) (omega arith) (omega arith));
          greater = λ j l h. absurd (omega arith);
        }

  -- a key whose gap is at the end has no value
  pub none_above : (m : Pairs) (k : Bytes) → IsGap (compared order (keys_of m) k) (length m) → look_up order m k ≡ None
  none_above m k gap = look_up_gap total k m (length m) gap

-- for a comparison with the last of the keys
pub ruleset ends = (parts, turned, gap_at_end)
