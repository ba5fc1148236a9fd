-- What is found and changed in a map in two levels, at the place of a pair of keys.
use Rattle.zv_map2d.proofs.Common.{◌≡◌, ℕ, suc, ◌+◌, ◌<◌, ◌==◌, Bool, false, List, [], ◌∷◌, length, Some, None, is_some, refl}
use Rattle.zv_map2d.proofs.Common.{sym, ◌∙◌, ap, arith, set_split, length-map, slice_get-get_or, IsTotalOrder, remove, slice_get, at_within, look_up_at}
use Rattle.zv_map2d.proofs.Common.{look_up_gap, rank_at, insert_entry_at, insert_entry_gap, without_key_at, without_key_gap, IsAt, values_of, look_up}
use Rattle.zv_map2d.proofs.Common.{insert_entry, without_key, set_value_at, compared, IsGap, Rule, fits, fits_by, if_found, Bytes, Order, IsPlace, del_at}
use Rattle.zv_map2d.proofs.Common.{find_at, fits_at, is_pair, put_at, Rows, IsWell, before, del, find, firsts, put, row, row_at, values, with_row, Pair}
use Rattle.zv_map2d.proofs.Common.{InRow, NewRow, AtMostDigits, ◌-◌, ◌≤◌, gap_within, true}
use Rattle.zv_map.specs.Reserved.{IsTaken}
use Rattle.std.proofs.lemmas.Bool.Decides.{nat_tests}
use Rattle.std.proofs.lemmas.List.Edits.{length-remove}
use Rattle.std.specs.Option.{unwrap_or}
use Rattle.std.specs.Prelude.{cond}
use Rattle.zv_map2d.specs.Bounds.{AtMostDigitsOf}
use Rattle.zv_map2d.specs.declared.place.Place.{Place}
use Rattle.zv_map2d.proofs.Flat.{get_pair, pair_within, row_split, row_well}

-- what the place of a pair that is there is within
pub pair_there : (order0 order1 : Order) (m : Rows) (k0 k1 : Bytes) (i j : ℕ) → IsPlace order0 order1 m k0 k1 (Pair i j) →
    (i < length m) × (j < length (row_at m i))
pair_there order0 order1 m k0 k1 i j at = (at_within order0 k0 m i at.0, at_within order1 k1 (row_at m i) j at.1)

-- and that of a new pair of a row
pub gap_there : (order0 order1 : Order) (m : Rows) (k0 k1 : Bytes) (i j : ℕ) → IsPlace order0 order1 m k0 k1 (InRow i j) →
    (i < length m) × (j ≤ length (row_at m i))
gap_there order0 order1 m k0 k1 i j at = (at_within order0 k0 m i at.0, gap_within order1 k1 (row_at m i) j at.1)

-- where the pair is not there, nothing is found, and nothing is taken out
module _ (m : Rows) where
  pub nothing_there : (p : Place) → ((i j : ℕ) → p ≡ Pair i j → ⊥) → find_at m p ≡ None
  nothing_there (Pair i j) other = absurd (other i j refl)
  nothing_there p other = refl

  pub none_gone : (p : Place) → ((i j : ℕ) → p ≡ Pair i j → ⊥) → del_at m p ≡ m
  none_gone (Pair i j) other = absurd (other i j refl)
  none_gone p other = refl

  pub pair_found : (p : Place) → is_some (find_at m p) ≡ is_pair p
  pair_found (Pair i j) = refl
  pair_found p = refl

module _ {order0 order1 : Order} (total0 : IsTotalOrder order0) (total1 : IsTotalOrder order1) (m : Rows) (k0 k1 : Bytes) where
  -- the first key is missing
  no_row : (i : ℕ) → IsGap (compared order0 (firsts m) k0) i → row order0 m k0 ≡ []
  no_row i gap = ap (λ o. unwrap_or o []) (look_up_gap total0 k0 m i gap)

  -- or there
  module _ (i : ℕ) (at : IsAt (compared order0 (firsts m) k0) i) where
    pub look_up_row : look_up order0 m k0 ≡ Some (row_at m i)
    look_up_row = look_up_at total0 k0 m i at
        ∙ slice_get-get_or (values_of m) i [] (omega (arith, at_within order0 k0 m i at, length-map m (λ e. e.1)))

    pub row_is : row order0 m k0 ≡ row_at m i
    row_is = ap (λ o. unwrap_or o []) look_up_row

    put_in_row : (v : Bytes) → put order0 order1 m k0 k1 v ≡ set_value_at m i (insert_entry order1 (row_at m i) k1 v)
    put_in_row v = ap (λ r. insert_entry order0 m k0 (insert_entry order1 r k1 v)) row_is ∙ insert_entry_at total0 k0 m _ i at

    with_row_at : (r : List (Bytes × Bytes)) → with_row order0 m k0 r ≡ cond (length r == 0) (remove m i) (set_value_at m i r)
    with_row_at [] = without_key_at total0 k0 m i at
    with_row_at (p ∷ r) = let some : (suc (length r) == 0) ≡ false = grind (arith, nat_tests) in rw some (insert_entry_at total0 k0 m (p ∷ r) i at)

  -- what is there, and what a change does there, at the place of the keys
  pub find_pair : (i j : ℕ) → IsPlace order0 order1 m k0 k1 (Pair i j) → find order0 order1 m k0 k1 ≡ slice_get (values_of (row_at m i)) j
  find_pair i j h = ap (λ r. look_up order1 r k1) (row_is i h.0) ∙ look_up_at total1 k1 (row_at m i) j h.1

  pub find_is : (p : Place) → IsPlace order0 order1 m k0 k1 p → find order0 order1 m k0 k1 ≡ find_at m p
  find_is (Pair i j) h =
      let w = pair_there order0 order1 m k0 k1 i j h in
      rw (find_pair i j h, ← get_pair (λ e. e.1) m i w.0 j w.1) (slice_get-get_or (values m) (before m i + j) [] (pair_within (λ e. e.1) m i w.0 j w.1))
  find_is (InRow i j) h = ap (λ r. look_up order1 r k1) (row_is i h.0) ∙ look_up_gap total1 k1 (row_at m i) j h.1
  find_is (NewRow i) h = ap (λ r. look_up order1 r k1) (no_row i h)

  pub put_is : (v : Bytes) (p : Place) → IsPlace order0 order1 m k0 k1 p → put order0 order1 m k0 k1 v ≡ put_at m k0 k1 v p
  put_is v (Pair i j) h = put_in_row i h.0 v ∙ ap (set_value_at m i) (insert_entry_at total1 k1 (row_at m i) v j h.1)
  put_is v (InRow i j) h = put_in_row i h.0 v ∙ ap (set_value_at m i) (insert_entry_gap total1 k1 (row_at m i) v j h.1)
  put_is v (NewRow i) h = ap (λ r. insert_entry order0 m k0 (insert_entry order1 r k1 v)) (no_row i h) ∙ insert_entry_gap total0 k0 m ((k1, v) ∷ []) i h

  pub fits_by_is : (test : Bytes → Bool) (rule : Rule) (v : Bytes) (p : Place) → IsPlace order0 order1 m k0 k1 p →
      fits_by test rule order0 order1 m k0 k1 v ≡ if_found (find_at m p) test (fits_at rule m k0 k1 v p)
  fits_by_is test rule v (Pair i j) h = rw (find_is (Pair i j) h) refl
  fits_by_is test rule v (InRow i j) h = rw (find_is (InRow i j) h, look_up_row i h.0) refl
  fits_by_is test rule v (NewRow i) h = rw (find_is (NewRow i) h, look_up_gap total0 k0 m i h) refl

  pub fits_is : (rule : Rule) (v : Bytes) (p : Place) → IsPlace order0 order1 m k0 k1 p → fits rule order0 order1 m k0 k1 v ≡ fits_at rule m k0 k1 v p
  fits_is rule v (Pair i j) h =
      fits_by_is _ rule v (Pair i j) h ∙ rw (rank_at total0 k0 m i h.0, row_is i h.0, rank_at total1 k1 (row_at m i) j h.1) refl
  fits_is rule v p h = fits_by_is _ rule v p h

  pub taken_there : (rule : Rule) (v : Bytes) (p : Place) → IsPlace order0 order1 m k0 k1 p → IsTaken (fits rule order0 order1 m k0 k1 v) →
      fits_at rule m k0 k1 v p ≡ true
  taken_there rule v p at h = sym (fits_is rule v p at) ∙ h.taken

  pub del_is : IsWell order0 order1 m → (p : Place) → IsPlace order0 order1 m k0 k1 p → del order0 order1 m k0 k1 ≡ del_at m p
  del_is well (Pair i j) h =
      let one = length-remove (row_at m i) j (at_within order1 k1 (row_at m i) j h.1) in
      let test : (length (remove (row_at m i) j) == 0) ≡ (length (row_at m i) == 1) = grind (arith, nat_tests) in
      rw (row_is i h.0, without_key_at total1 k1 (row_at m i) j h.1, with_row_at i h.0 _, test) refl
  del_is well (InRow i j) h =
      let w = at_within order0 k0 m i h.0 in
      let some = (row_well order1 m i well.1 w).0 in
      let test : (length (row_at m i) == 0) ≡ false = grind (arith, nat_tests) in
      rw (row_is i h.0, without_key_gap total1 k1 (row_at m i) j h.1, with_row_at i h.0 (row_at m i), test) (set_split m i _ w ∙ sym (row_split m i w))
  del_is well (NewRow i) h = ap (λ r. with_row order0 m k0 (without_key order1 r k1)) (no_row i h) ∙ without_key_gap total0 k0 m i h

-- how many comparisons they take, where the second search is in the row that the first found
pub searches_in_row : {order0 order1 : Order} → IsTotalOrder order0 → IsTotalOrder order1 → (m : Rows) (k0 : Bytes) (i : ℕ) →
    IsAt (compared order0 (firsts m) k0) i → (start middle end : ℕ) → start ≤ middle → middle ≤ end → AtMostDigits (middle - start) (length m) →
    AtMostDigits (end - middle) (length (row_at m i)) → AtMostDigitsOf (end - start) (length m) (length (row order0 m k0))
searches_in_row total0 total1 m k0 i at start middle end u v few more =
    rw (row_is total0 total1 m k0 [] i at) (λ j k h l. omega (arith, few j h, more k l, u, v))
