-- What a frozen image has, and the map that it thaws to.
use Rattle.zv_frozen.proofs.Common.{◌&&◌, ◌++◌, ◌<◌, ◌^◌, ◌∙◌, ◌∷◌, ◌≡◌, ◌≤◌, All, All-from_get_or, All-nil, AllByRecursion, AreApartBelow, AreHome, AreKeys}
use Rattle.zv_frozen.proofs.Common.{AreSizedTriples, Bytes, IsDistinct, IsDistinct-from_apart, IsDistinct-tail, IsKey, IsSound, IsTableFor, IsWell, List, None}
use Rattle.zv_frozen.proofs.Common.{Rows, Some, Table, Triple, [], and_parts, ap, arith, by_bytes, cases_Bool, cond_both, entries, entry, eq_by_cmp}
use Rattle.zv_frozen.proofs.Common.{eq_by_cmp_equiv, exact_bytes, false_from_ne_true, find, firsts-zip, fit16, found, get_or, get_or_default, inl, inr, is_at}
use Rattle.zv_frozen.proofs.Common.{is_eq, keeps_last, key_hashed, key_order, keys_of, last_given, le, length, length-append, length-keys_of, length-map}
use Rattle.zv_frozen.proofs.Common.{look_up, lookup-none, lt-ltb, ltb-false, ltb-true, map, nat_list_cmp_total, nat_lt, nat_tests, none_past_head, nth}
use Rattle.zv_frozen.proofs.Common.{on_texts, over_none, pair_key, pairs_of, put_all, read_bytes, recursion_from_All, refl, slot_of_key, split, subst, sym}
use Rattle.zv_frozen.proofs.Common.{takes_insert, takes_pushes, thawed, tied_itself, triples, triples_of, true, value_of, zip, ℕ}
use Rattle.std.proofs.Math.ListN.{get_or-map as get_or_of_map}
use Rattle.std.specs.Cmp.{Equal-is, both_ways}
use Rattle.zv_frozen.proofs.Keys.{exact_keys, same_texts}

-- ---- what a table has is what its pairs give, put one after another

-- each first text is short
abbrev pub AreShort : List Triple → Type 0
AreShort ts = AllByRecursion (λ t. length t.0 < 2 ^ 32) ts

-- keys are the same where both texts are
same_test : (j0 j1 k0 k1 : Bytes) → length j0 < 2 ^ 32 → length k0 < 2 ^ 32 →
    is_eq (key_order (pair_key k0 k1) (pair_key j0 j1)) ≡ (is_eq (by_bytes j0 k0) && is_eq (by_bytes j1 k1))
same_test j0 j1 k0 k1 s t = both_ways _ _
    (λ e. let both = same_texts j0 j1 k0 k1 s t (sym (exact_keys (pair_key k0 k1) (pair_key j0 j1) ((Equal-is _).0 e))) in
    rw (both.0, both.1, tied_itself nat_list_cmp_total k0, tied_itself nat_list_cmp_total k1) refl)
    (λ e. let both = and_parts (is_eq (by_bytes j0 k0)) (is_eq (by_bytes j1 k1)) e in
    rw (exact_bytes j0 k0 ((Equal-is _).0 both.0), exact_bytes j1 k1 ((Equal-is _).0 both.1), tied_itself (on_texts read_bytes) (pair_key k0 k1)) refl)

-- of keys that differ the first that is the one is the last
first_is_last : (ts : List Triple) (k0 k1 : Bytes) → length k0 < 2 ^ 32 → AreShort ts → IsDistinct (eq_by_cmp key_order) (keys_of (map entry ts)) →
    look_up key_order (map entry ts) (pair_key k0 k1) ≡ last_given by_bytes by_bytes ts k0 k1
first_is_last [] k0 k1 short all distinct = refl
first_is_last (t ∷ ts) k0 k1 short all distinct =
    let q = pair_key k0 k1 in
    let rest = first_is_last ts k0 k1 short all.1 (IsDistinct-tail (eq_by_cmp key_order) (pair_key t.0 t.1) (keys_of (map entry ts)) distinct) in
    let test = same_test t.0 t.1 k0 k1 all.0 short in
    elim (cases_Bool (is_eq (key_order q (pair_key t.0 t.1)))) [
      | inl e ↦
          let others = none_past_head (eq_by_cmp_equiv (on_texts read_bytes)) q (entry t) (map entry ts) distinct e in
          rw (e, ← test, e, ← rest, lookup-none (is_at (key_order q)) (map entry ts) others) refl
      | inr e ↦ rw (e, ← test, e, rest) (grind arith)
    ]

-- a text that is too long is none of them
long_none : (ts : List Triple) (k0 k1 : Bytes) → AreShort ts → 2 ^ 32 ≤ length k0 → last_given by_bytes by_bytes ts k0 k1 ≡ None
long_none [] k0 k1 all long = refl
long_none (t ∷ ts) k0 k1 all long =
    let other = false_from_ne_true (is_eq (by_bytes t.0 k0)) (λ e. omega (arith, ap length (exact_bytes t.0 k0 ((Equal-is _).0 e)), all.0)) in
    rw (long_none ts k0 k1 all.1 long, other) refl

-- what a pair of texts has
pub value_short : (t : Table) (k0 k1 : Bytes) → length k0 < 2 ^ 32 → found key_order key_hashed t (pair_key k0 k1) ≡ value_of t k0 k1
value_short t k0 k1 short = rw (lt-ltb (length k0) (2 ^ 32) short) refl

-- it is what the map of triples has, put one after another, where the table answers as their pairs do
given_alike : (t : Table) (ts : List Triple) → AreShort ts → IsDistinct (eq_by_cmp key_order) (keys_of (map entry ts)) →
    ((key : Bytes) → found key_order key_hashed t key ≡ look_up key_order (map entry ts) key) → (k0 k1 : Bytes) →
    find by_bytes by_bytes (put_all by_bytes by_bytes [] ts) k0 k1 ≡ value_of t k0 k1
given_alike t ts all distinct answers k0 k1 =
    keeps_last by_bytes by_bytes nat_list_cmp_total nat_list_cmp_total ts k0 k1
    ∙ cond_both (nat_lt (length k0) (2 ^ 32)) (found key_order key_hashed t (pair_key k0 k1)) None (λ v. last_given by_bytes by_bytes ts k0 k1 ≡ v)
    (λ e. sym (answers (pair_key k0 k1) ∙ first_is_last ts k0 k1 (ltb-true (length k0) (2 ^ 32) e) all distinct))
    (λ e. long_none ts k0 k1 all (ltb-false (length k0) (2 ^ 32) e))

-- keys that are apart differ, and so do those that lie in their slots
distinct : (ks : List Bytes) → AreApartBelow key_order ks (length ks) → IsDistinct (eq_by_cmp key_order) ks
distinct ks apart = IsDistinct-from_apart (eq_by_cmp key_order) ks (λ i j d less within. false_from_ne_true (is_eq (key_order (get_or ks i d) (get_or ks j d)))
    (λ e. apart i j less within (rw (get_or_default ks i [] d (omega (arith, less, within)), get_or_default ks j [] d within) ((Equal-is _).0 e))))

home_distinct : (t : Table) → AreHome key_hashed t → IsDistinct (eq_by_cmp key_order) t.keys
home_distinct t home = distinct t.keys (λ i j less within e.
    let one = home i (omega (arith, less, within)) in
    let both : Some i ≡ Some j = sym one ∙ ap (slot_of_key key_hashed t) (exact_keys (nth t.keys i) (nth t.keys j) e) ∙ home j within in
    let alike : i ≡ j = cc in
    omega (arith, less, alike))

-- ---- the triples of a table

put_together : (ps : List (Bytes × Bytes)) → AllByRecursion IsKey (keys_of ps) → map entry (split ps) ≡ ps
put_together [] keys = refl
put_together (p ∷ ps) keys = λ j. (sym keys.0.is j, p.1) ∷ put_together ps keys.1 j

split_short : (ps : List (Bytes × Bytes)) → AllByRecursion IsKey (keys_of ps) → AreShort (split ps)
split_short [] keys = tt
split_short (p ∷ ps) keys = (keys.0.short, split_short ps keys.1)

zipped_keys : (ks vs : List Bytes) → AllByRecursion IsKey ks → AllByRecursion IsKey (keys_of (zip ks vs))
zipped_keys [] vs keys = tt
zipped_keys (k ∷ ks) [] keys = tt
zipped_keys (k ∷ ks) (v ∷ vs) keys = (keys.0, zipped_keys ks vs keys.1)

pub all_keys : (t : Table) → AreKeys t → AllByRecursion IsKey (keys_of (pairs_of t))
all_keys t keys = zipped_keys t.keys t.values (recursion_from_All IsKey t.keys (All-from_get_or IsKey t.keys [] keys))

-- no triples are at hand
pub none_sized : AreSizedTriples []
none_sized = record { first = All-nil (λ t. length t.0 < 2 ^ 64); second = All-nil (λ t. length t.1 < 2 ^ 64); value = All-nil (λ t. length t.2 < 2 ^ 64) }

-- what holds of each triple that is written holds of each that it is written for
pub all_written : {X : Type 0} (f : X → Triple) (P : Triple → Type 0) (xs : List X) → All P (map f xs) → All (λ x. P (f x)) xs
all_written f P xs all = λ i d h. subst P (get_or_of_map f xs i d) (all i (f d) (rw (length-map xs f) h))

-- what a sound table has is what its pairs give, put one after another
module _ (home_tables : (t : Table) → length t.values ≡ length t.keys → AreHome key_hashed t → (key : Bytes) →
    found key_order key_hashed t key ≡ look_up key_order (pairs_of t) key) where
  pub thawed_alike : (t : Table) → length t.values ≡ length t.keys → IsSound t → (k0 k1 : Bytes) →
      find by_bytes by_bytes (thawed t) k0 k1 ≡ value_of t k0 k1
  thawed_alike t counts sound k0 k1 =
      let all = all_keys t sound.keys in
      let back = put_together (pairs_of t) all in
      let apart = rw (← firsts-zip t.keys t.values counts, ← back) at (home_distinct t sound.home) in
      given_alike t (triples_of t) (split_short (pairs_of t) all) apart (λ key. rw back (home_tables t counts sound.home key)) k0 k1

-- ---- the table of a map

one_short : (xs : List Bytes) (n : ℕ) → takes_insert 2 xs n ≡ true → n < 2 ^ 16
one_short [] n t = grind (arith, nat_tests)
one_short (x ∷ xs) n t = grind (arith, nat_tests)

-- each key that is taken is shorter than what a field holds
pub all_short : (xs ks : List Bytes) → takes_pushes (takes_insert 2) xs ks ≡ true → AllByRecursion (λ k. length k < 2 ^ 16) ks
all_short xs [] t = tt
all_short xs (k ∷ ks) t = (one_short xs (length k) (grind arith), all_short (xs ++ k ∷ []) ks (grind arith))

module _ (m : Rows) where
  -- the first texts of a map whose pairs are taken are short
  from_keys : (ts : List Triple) → AllByRecursion (λ k. length k < 2 ^ 16) (keys_of (map entry ts)) → AreShort ts
  from_keys [] all = tt
  from_keys (t ∷ ts) all = (omega (arith, length-append (le 4 (length t.0)) (t.0 ++ t.1), length-append t.0 t.1, all.0), from_keys ts all.1)

  pub shorts : fit16 (entries m) ≡ true → AreShort (triples m)
  shorts fits = from_keys (triples m) (all_short [] (keys_of (entries m)) (grind arith))

  pub found_as_in_map : IsWell by_bytes by_bytes m → (t : Table) → IsTableFor m t → (k0 k1 : Bytes) → value_of t k0 k1 ≡ find by_bytes by_bytes m k0 k1
  found_as_in_map well t is k0 k1 =
      let apart = distinct (keys_of (entries m)) (rw (length-keys_of (entries m)) is.apart) in
      sym (given_alike t (triples m) (shorts is.taken) apart is.answers k0 k1) ∙ ap (λ n. find by_bytes by_bytes n k0 k1) (over_none m well)
