-- The rows of a map, one after another.
use Rattle.zv_map2d.proofs.Common.{◌≡◌, ℕ, suc, ◌+◌, ◌-◌, ◌<◌, List, [], ◌∷◌, ◌++◌, length, map, sym, ◌∙◌, ap, arith, ext_get_or, length-map, Bytes, Rows, Row}
use Rattle.zv_map2d.proofs.Common.{row_seen, rows_seen, get_or-map}
use Rattle.std.proofs.lemmas.List.FromFn.{get_or-map-range_with_len, length-map-range_with_len, map-range_with_len_more}
use Rattle.zv_map2d.proofs.Flat.{row_is}

module _ (m : Rows) where
  -- a row and the others
  pub seen_next : (i e : ℕ) → i < e → rows_seen m i (e - i) ≡ row_seen m i ∷ rows_seen m (i + 1) (e - (i + 1))
  seen_next i e h = let one : e - i ≡ suc (e - (i + 1)) = omega arith in ap (rows_seen m i) one

  -- the others and the last row
  pub seen_last : (i e : ℕ) → i < e → rows_seen m i (e - i) ≡ rows_seen m i (e - 1 - i) ++ row_seen m (e - 1) ∷ []
  seen_last i e h =
      let one : e - i ≡ e - 1 - i + 1 = omega arith in
      ap (rows_seen m i) one ∙ map-range_with_len_more (row_seen m) i (e - 1 - i) (e - 1) (omega arith)

  -- how many there are
  pub seen_count : (i n : ℕ) → length (rows_seen m i n) ≡ n
  seen_count i n = length-map-range_with_len (row_seen m) i n

-- all of them are the map
pub seen_all : (m : Rows) → map (λ (c : Row). (c.key, c.pairs)) (rows_seen m 0 (length m)) ≡ m
seen_all m =
    let pair : Row → Bytes × List (Bytes × Bytes) = λ c. (c.key, c.pairs) in
    let all = seen_count m 0 (length m) in
    ext_get_or ([], []) _ m (length-map _ pair ∙ all) (λ i h.
    let within : i < length m = omega (arith, length-map (rows_seen m 0 (length m)) pair) in
    rw (
      get_or-map pair (rows_seen m 0 (length m)) i (row_seen m 0) ([], []) (omega arith),
      get_or-map-range_with_len (row_seen m) 0 (length m) i i (row_seen m 0) within (omega arith),
    ) (sym (row_is m i within)))
