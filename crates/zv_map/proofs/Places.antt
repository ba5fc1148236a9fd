-- Maps by the places of their keys: what a search of ascending keys finds, what is there, what a change does at such a place,
-- and what is found after a change.
use Rattle.std.proofs.Common.{false, cond, Some, Result, Ok}
use Rattle.std.proofs.lemmas.Cmp.{tied_itself, eq_by_cmp_equiv}
use Rattle.std.proofs.lemmas.List.{take-map, drop-map}
use Rattle.std.proofs.lemmas.List.Elements.{All-weaker, All-from_recursion, recursion_from_All}
use Rattle.std.proofs.lemmas.Map.{lookup-none, lookup-remove_entry}
use Rattle.std.proofs.lemmas.Map.Entries.{none_past_head, none_below_head}
use Rattle.std.proofs.lemmas.Map.Keys.{IsDistinct-from_sorted, sorted_tail}
use Rattle.std.proofs.lemmas.Map.Views.{All-keys-insert_entry, All-values-insert_entry, All-map-remove_entry}
use Rattle.std.specs.BTreeMap.{is_at}
use Rattle.std.specs.Cmp.{alike_right}
use Rattle.std.specs.List.{insert, remove, slice_get, AllByRecursion}
use Rattle.std.specs.Map.{lookup_entry}
use Rattle.std.specs.Ordering.{is_eq, match_ordering, ordering_index}
use Rattle.std.specs.Result.{MatchResult}
use Rattle.std.specs.declared.cmp.Ordering.TheVariants.{Greater}
use Rattle.zv_ule.specs.Search.{IsHit, IsGap, Found}
use Rattle.zv_map.proofs.Common.{◌≡◌, ℕ, zero, suc, ◌-◌, ◌<◌, ◌≤◌, Bool, true, List, [], ◌∷◌, length, None, Err, refl, sym, ◌∙◌, ap, arith, slice_range}
use Rattle.zv_map.proofs.Common.{length-map, Less-from_sorted, IsTotalOrder, IsStrictlySortedBy, ordering_reverse, Ordering, Less, Equal, compared, Rises}
use Rattle.zv_map.proofs.Common.{Bytes, nth, nat_tests}
use Rattle.zv_ule.proofs.Ascents.{compared_at, sorted_rises}
use Rattle.zv_map.specs.Maps.{IsMap, keys_of, values_of, look_up, insert_entry, without_key, rank, set_value_at, IsAt}

-- ---- places among answers

index_greater : (r : Ordering) → 2 ≤ ordering_index r → r ≡ Greater
index_greater = elim [ Greater ↦ λ h. refl | _ ↦ λ h. absurd (omega arith) ]

-- without the first answer
module _ (a : Ordering) (answers : List Ordering) (i : ℕ) where
  at_tail : IsAt (a ∷ answers) (suc i) → IsAt answers i
  at_tail h = record { within = omega arith; less = λ j l. h.less (suc j) (omega arith); equal = h.equal }

  gap_tail : (n : ℕ) → i ≡ n - 1 → IsGap (a ∷ answers) n → IsGap answers i
  gap_tail n e h = record { within = omega arith; less = λ j l. h.less (suc j) (omega arith); greater = λ j l. search (arith, h.greater (suc j)) }

-- in answers that rise, either one stands at its place or there is a gap
by_answers : (answers : List Ordering) → Rises answers → (P : Type 0) → ((i : ℕ) → IsAt answers i → P) → ((i : ℕ) → IsGap answers i → P) → P
by_answers [] up P hit gap = gap 0 (record { within = omega arith; less = grind arith; greater = grind arith })
by_answers (Less ∷ rest) up P hit gap = by_answers rest (λ i j l s. up (suc i) (suc j) (omega arith) (omega arith)) P
    (λ i h. hit (suc i) (record { within = omega (arith, h.within); less = elim [ zero ↦ λ l. refl | suc j ↦ λ l. h.less j (omega arith) ]; equal = h.equal }))
    (λ i h. gap (suc i) (record {
      within = omega (arith, h.within);
      less = elim [ zero ↦ λ l. refl | suc j ↦ λ l. h.less j (omega arith) ];
      greater = elim [ zero ↦ λ l s. absurd (omega arith) | suc j ↦ λ l s. h.greater j (omega arith) (omega arith) ];
    }))
by_answers (Equal ∷ rest) up P hit gap = hit 0 (record { within = omega arith; less = grind arith; equal = refl })
by_answers (Greater ∷ rest) up P hit gap =
    gap 0 (record { within = omega arith; less = grind arith; greater = λ j l s. index_greater _ (up 0 j l s) })

-- ---- places among keys

-- the answers of a range
pub compared_range : (order : Bytes → Bytes → Ordering) (k : Bytes) (ks : List Bytes) (i j : ℕ) →
    slice_range (compared order ks k) i j ≡ compared order (slice_range ks i j) k
compared_range order k ks i j = simp (take-map, drop-map)

module _ {X : Type 0} (order : Bytes → Bytes → Ordering) (k : Bytes) (m : List (Bytes × X)) (i : ℕ) where
  -- places among the answers are places among the entries
  pub at_within : IsAt (compared order (keys_of m) k) i → i < length m
  at_within h = simp length-map at h.within

  pub gap_within : IsGap (compared order (keys_of m) k) i → i ≤ length m
  gap_within h = simp length-map at h.within

module _ {order : Bytes → Bytes → Ordering} (total : IsTotalOrder order) (k : Bytes) where
  -- how k compares with a key that compares so with k
  turned : (x : Bytes) (r : Ordering) → order x k ≡ r → order k x ≡ ordering_reverse r
  turned x r e = total.antisymm k x ∙ ap ordering_reverse e

  module _ (ks : List Bytes) (up : IsStrictlySortedBy order ks) where
    hit_is_at : (i : ℕ) → IsHit (compared order ks k) i → IsAt (compared order ks k) i
    hit_is_at i h =
        let w : i < length ks = simp length-map at h.within in
        let e : order (nth ks i) k ≡ Equal = rw compared_at at h.equal in
        record {
          within = h.within;
          less = λ j l. rw (compared_at order k ks j (omega arith), ← alike_right total (nth ks i) k (nth ks j) e) (Less-from_sorted order ks j i [] up l w);
          equal = h.equal;
        }

    -- what a search of ascending keys found
    pub placed : (r : Result ℕ ℕ) → Found (compared order ks k) r → MatchResult r (IsAt (compared order ks k)) (IsGap (compared order ks k))
    placed (Ok i) h = hit_is_at i h
    placed (Err i) h = h.1 (sorted_rises total k ks up)

  -- each key stands at its place, and any other key has a gap
  pub by_place : (ks : List Bytes) → IsStrictlySortedBy order ks → (P : Type 0) → ((i : ℕ) → IsAt (compared order ks k) i → P) →
      ((i : ℕ) → IsGap (compared order ks k) i → P) → P
  by_place ks up = by_answers (compared order ks k) (sorted_rises total k ks up)

  module _ {X : Type 0} where
    -- what holds of the place or the gap of k among any entries, by the first of them
    module _ {P : List (Bytes × X) → ℕ → Type 0}
        (past : (p : Bytes × X) (m : List (Bytes × X)) (i : ℕ) → order k p.0 ≡ Greater → P m i → P (p ∷ m) (suc i)) where
      by_at : ((p : Bytes × X) (m : List (Bytes × X)) → order k p.0 ≡ Equal → P (p ∷ m) 0) →
          (m : List (Bytes × X)) (i : ℕ) → IsAt (compared order (keys_of m) k) i → P m i
      by_at here [] i h = absurd (omega (arith, h.within))
      by_at here (p ∷ m) zero h = here p m (turned p.0 Equal h.equal)
      by_at here (p ∷ m) (suc i) h = past p m i (turned p.0 Less (h.less 0 (omega arith))) (by_at here m i (at_tail _ _ i h))

      by_gap : P [] 0 → ((p : Bytes × X) (m : List (Bytes × X)) → order k p.0 ≡ Less → P m 0 → P (p ∷ m) 0) →
          (m : List (Bytes × X)) (i : ℕ) → IsGap (compared order (keys_of m) k) i → P m i
      by_gap end below [] zero h = end
      by_gap end below [] (suc i) h = absurd (omega (arith, h.within))
      by_gap end below (p ∷ m) zero h =
          below p m (turned p.0 Greater (h.greater 0 (omega arith) (omega arith))) (by_gap end below m 0 (gap_tail _ _ 0 0 (omega arith) h))
      by_gap end below (p ∷ m) (suc i) h =
          past p m i (turned p.0 Less (h.less 0 (omega arith))) (by_gap end below m i (gap_tail _ _ i (suc i) (omega arith) h))

    -- ---- what is at a place

    pub look_up_at : (m : List (Bytes × X)) (i : ℕ) → IsAt (compared order (keys_of m) k) i → look_up order m k ≡ slice_get (values_of m) i
    look_up_at = by_at (λ p m i e h. rw e h) (λ p m e. rw e)

    pub look_up_gap : (m : List (Bytes × X)) (i : ℕ) → IsGap (compared order (keys_of m) k) i → look_up order m k ≡ None
    look_up_gap = by_gap (λ p m i e h. rw e h) refl (λ p m e h. rw e h)

    pub entry_at : (m : List (Bytes × X)) (i : ℕ) → IsAt (compared order (keys_of m) k) i → lookup_entry (is_at (order k)) m ≡ slice_get m i
    entry_at = by_at (λ p m i e h. rw e h) (λ p m e. rw e)

    pub entry_gap : (m : List (Bytes × X)) (i : ℕ) → IsGap (compared order (keys_of m) k) i → lookup_entry (is_at (order k)) m ≡ None
    entry_gap = by_gap (λ p m i e h. rw e h) refl (λ p m e h. rw e h)

    pub rank_at : (m : List (Bytes × X)) (i : ℕ) → IsAt (compared order (keys_of m) k) i → rank order m k ≡ i
    rank_at = by_at (λ p m i e h. rw (e, h)) (λ p m e. rw e)

    -- ---- a change at a place

    pub insert_entry_at : (m : List (Bytes × X)) (x : X) (i : ℕ) → IsAt (compared order (keys_of m) k) i → insert_entry order m k x ≡ set_value_at m i x
    insert_entry_at m x = by_at {P = λ m i. insert_entry order m k x ≡ set_value_at m i x} (λ p m i e h. rw (e, h)) (λ p m e. rw e) m

    pub insert_entry_gap : (m : List (Bytes × X)) (x : X) (i : ℕ) → IsGap (compared order (keys_of m) k) i → insert_entry order m k x ≡ insert m i (k, x)
    insert_entry_gap m x = by_gap {P = λ m i. insert_entry order m k x ≡ insert m i (k, x)} (λ p m i e h. rw (e, h)) refl (λ p m e h. rw e) m

    pub without_key_at : (m : List (Bytes × X)) (i : ℕ) → IsAt (compared order (keys_of m) k) i → without_key order m k ≡ remove m i
    without_key_at = by_at (λ p m i e h. rw (e, h)) (λ p m e. rw e)

    pub without_key_gap : (m : List (Bytes × X)) (i : ℕ) → IsGap (compared order (keys_of m) k) i → without_key order m k ≡ m
    without_key_gap = by_gap (λ p m i e h. rw (e, h)) refl (λ p m e h. rw (e, h))

-- a key stands at its own place
pub own_place : {order : Bytes → Bytes → Ordering} → IsTotalOrder order → (ks : List Bytes) → IsStrictlySortedBy order ks → (i : ℕ) → i < length ks →
    IsAt (compared order ks (nth ks i)) i
own_place {order} total ks up i h =
    let equal = compared_at order (nth ks i) ks i h ∙ tied_itself total (nth ks i) in
    hit_is_at total (nth ks i) ks up i (record { within = omega (arith, h, length-map ks (λ x. order x (nth ks i))); equal = equal })

-- ---- what a change keeps

module _ {X : Type 0} (order : Bytes → Bytes → Ordering) (m : List (Bytes × X)) (k : Bytes) where
  pub keys_with : (P : Bytes → Type 0) (x : X) → P k → AllByRecursion P (keys_of m) → AllByRecursion P (keys_of (insert_entry order m k x))
  keys_with P x h all = recursion_from_All P _ (All-keys-insert_entry order k x P m (All-from_recursion P _ all) h)

  pub values_with : (P : X → Type 0) (x : X) → P x → AllByRecursion P (values_of m) → AllByRecursion P (values_of (insert_entry order m k x))
  values_with P x h all = recursion_from_All P _ (All-values-insert_entry order k x P m (All-from_recursion P _ all) h)

  pub values_without : (P : X → Type 0) → AllByRecursion P (values_of m) → AllByRecursion P (values_of (without_key order m k))
  values_without P all = recursion_from_All P _ (All-map-remove_entry (is_at (order k)) (λ e. e.1) P m (All-from_recursion P _ all))

pub equal_of : (r : Ordering) → is_eq r ≡ true → r ≡ Equal
equal_of = elim [ Equal ↦ λ e. refl | _ ↦ λ e. cc ]

module _ {order : Bytes → Bytes → Ordering} (total : IsTotalOrder order) {X : Type 0} where
  pub IsMap-insert_entry : (m : List (Bytes × X)) (k : Bytes) (x : X) → IsMap order m → IsMap order (insert_entry order m k x)
  unfolding IsStrictlySortedBy
  IsMap-insert_entry [] k x up = (tt, tt)
  IsMap-insert_entry (p ∷ m) k x up = go (order k p.0) refl (IsMap-insert_entry m k x up.1)
    where
      go : (r : Ordering) → order k p.0 ≡ r → IsMap order (insert_entry order m k x) →
          IsMap order (match_ordering r ((k, x) ∷ p ∷ m) ((p.0, x) ∷ m) (p ∷ insert_entry order m k x))
      go Less e h = (
        (e, recursion_from_All _ _ (All-weaker _ _ (λ y. total.trans k p.0 y e) _ (All-from_recursion (λ y. order p.0 y ≡ Less) _ up.0))),
        up,
      )
      go Equal e h = up
      go Greater e h = (keys_with order m k (λ y. order p.0 y ≡ Less) x (turned total p.0 k Greater e) up.0, h)

  pub IsMap-without_key : (m : List (Bytes × X)) (k : Bytes) → IsMap order m → IsMap order (without_key order m k)
  unfolding IsStrictlySortedBy
  IsMap-without_key [] k up = tt
  IsMap-without_key (p ∷ m) k up =
      let by : (b : Bool) → IsMap order (cond b m (p ∷ without_key order m k)) = elim [
        | true ↦ up.1
        | false ↦ (
          recursion_from_All _ _ (All-map-remove_entry (is_at (order k)) (λ e. e.0) (λ y. order p.0 y ≡ Less) m (All-from_recursion _ _ up.0)),
          IsMap-without_key m k up.1,
        )
      ] in
      by (is_eq (order k p.0))

  -- ---- what is found after a change

  pub look_up-insert_entry : (m : List (Bytes × X)) (k j : Bytes) (x : X) →
      look_up order (insert_entry order m k x) j ≡ cond (is_eq (order k j)) (Some x) (look_up order m j)
  look_up-insert_entry [] k j x = rw ((eq_by_cmp_equiv total).symm k j)
  look_up-insert_entry (p ∷ m) k j x = rw ((eq_by_cmp_equiv total).symm k j) (go (order k p.0) refl (look_up-insert_entry m k j x))
    where
      go : (r : Ordering) → order k p.0 ≡ r → look_up order (insert_entry order m k x) j ≡ cond (is_eq (order k j)) (Some x) (look_up order m j) →
          look_up order (match_ordering r ((k, x) ∷ p ∷ m) ((p.0, x) ∷ m) (p ∷ insert_entry order m k x)) j
          ≡ cond (is_eq (order j k)) (Some x) (look_up order (p ∷ m) j)
      go Less e h = refl
      go Equal e h = rw (alike_right total k p.0 j e) (grind (arith, nat_tests))
      go Greater e h = grind (arith, nat_tests)

  pub look_up-without_key : (m : List (Bytes × X)) (k j : Bytes) → IsMap order m →
      look_up order (without_key order m k) j ≡ cond (is_eq (order k j)) None (look_up order m j)
  look_up-without_key m k j up =
      let laws = eq_by_cmp_equiv total in
      lookup-remove_entry laws (is_at (order k)) (laws.congr k) j m (IsDistinct-from_sorted order (keys_of m) up)

  -- keys that compare Equal have the same
  pub look_up_alike : (m : List (Bytes × X)) (k j : Bytes) → order k j ≡ Equal → look_up order m k ≡ look_up order m j
  look_up_alike [] k j e = refl
  look_up_alike (p ∷ m) k j e = rw (total.congr k j p.0 e, look_up_alike m k j e)

-- ---- maps in which the same is found

module _ {order : Bytes → Bytes → Ordering} (total : IsTotalOrder order) {X : Type 0}
    (IsKey : Bytes → Type 0) (exact : (a b : Bytes) → IsKey a → IsKey b → order a b ≡ Equal → a ≡ b) where
  first_found : (k : Bytes) (v : X) (m : List (Bytes × X)) → look_up order ((k, v) ∷ m) k ≡ Some v
  first_found k v m = rw (tied_itself total k)

  -- a first key is no lower than the other map's
  not_below : (k j : Bytes) (v w : X) (m n : List (Bytes × X)) → IsMap order ((j, w) ∷ n) →
      look_up order ((k, v) ∷ m) k ≡ look_up order ((j, w) ∷ n) k → order k j ≡ Less → ⊥
  not_below k j v w m n un f e =
      let none = lookup-none (is_at (order k)) ((j, w) ∷ n) (none_below_head total k (j, w) n un e) in
      cc (first_found k v m)

  -- where the first keys are one, the others have the same
  rest_alike : (k : Bytes) (v w : X) (m n : List (Bytes × X)) → IsMap order ((k, v) ∷ m) → IsMap order ((k, w) ∷ n) → (j : Bytes) →
      look_up order ((k, v) ∷ m) j ≡ look_up order ((k, w) ∷ n) j → look_up order m j ≡ look_up order n j
  rest_alike k v w m n um un j f =
      let none_after = λ (x : X) (l : List (Bytes × X)) (up : IsMap order ((k, x) ∷ l)) (e : is_eq (order j k) ≡ true).
      lookup-none (is_at (order j)) l (none_past_head (eq_by_cmp_equiv total) j (k, x) l (IsDistinct-from_sorted order _ up) e) in
      let left = none_after v m um in
      let right = none_after w n un in
      grind (arith, nat_tests)

  pub maps_alike : (m n : List (Bytes × X)) → IsMap order m → IsMap order n → AllByRecursion IsKey (keys_of m) → AllByRecursion IsKey (keys_of n) →
      ((k : Bytes) → IsKey k → look_up order m k ≡ look_up order n k) → m ≡ n
  maps_alike [] [] um un km kn f = refl
  maps_alike [] ((j, w) ∷ n) um un km kn f = let none = f j kn.0 in cc (first_found j w n)
  maps_alike ((k, v) ∷ m) [] um un km kn f = let none = f k km.0 in cc (first_found k v m)
  maps_alike ((k, v) ∷ m) ((j, w) ∷ n) um un km kn f =
      go (order k j) refl (maps_alike m n (sorted_tail order _ _ um) (sorted_tail order _ _ un) km.1 kn.1)
    where
      go : (r : Ordering) → order k j ≡ r → (((i : Bytes) → IsKey i → look_up order m i ≡ look_up order n i) → m ≡ n) → (k, v) ∷ m ≡ (j, w) ∷ n
      go Less e rest = absurd (not_below k j v w m n un (f k km.0) e)
      go Equal e rest =
          let one : k ≡ j = exact k j km.0 kn.0 e in
          let others : m ≡ n = rest (λ i a. rest_alike k v w m n um (rw (← one) at un) i (rw (← one) at (f i a))) in
          let found = f k km.0 in
          cc (first_found k v m, first_found j w n)
      go Greater e rest = absurd (not_below j k w v n m um (sym (f j kn.0)) (turned total j k Greater e))
