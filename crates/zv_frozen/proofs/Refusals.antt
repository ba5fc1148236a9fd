-- Why the pairs of a map have no table.
use Rattle.zv_frozen.proofs.Common.{◌++◌, ◌<◌, ◌^◌, ◌∷◌, ◌≡◌, ◌≤◌, ◌⊎◌, All-contains, All-from_recursion, AllByRecursion, AreApartBelow, Bytes}
use Rattle.zv_frozen.proofs.Common.{Contains-append_right, Equal, IsNoTable, IsNotFrozen, IsWell, Less, Less-from_sorted, List, Ordering, Rows, Triple, []}
use Rattle.zv_frozen.proofs.Common.{append_assoc, arith, by_bytes, entries, entry, false, false_from_ne_true, fit16, freeze_error, inl, inr, key_hashed}
use Rattle.zv_frozen.proofs.Common.{key_order, keys_of, le, length, length-append, length-keys_of, map, map-append, nat_list_cmp_total, nat_tests, nth}
use Rattle.zv_frozen.proofs.Common.{ordering_then, pair_key, refl, row_triples, size_total, sorted_head, sorted_tail, takes_insert, takes_pushes, text0, text1}
use Rattle.zv_frozen.proofs.Common.{tied_itself, triples, true}
use Rattle.std.specs.List.Sorted.{IsStrictlySortedBy}
use Rattle.zv_hash.specs.declared.error.HashError.{HashError}
use Rattle.zv_hash.specs.declared.error.HashError.TheVariants.{Memory, NoPlace, Repeated, TooLarge, TooMany}
use Rattle.zv_owned.proofs.Pushes.{several_taken}
use Rattle.zv_frozen.specs.declared.error.FreezeError.{FreezeError}
use Rattle.zv_frozen.proofs.Keys.{exact_keys, first_back, second_back}
use Rattle.zv_frozen.proofs.Thawed.{AreShort, all_short, shorts}

-- ---- the keys of a map's pairs differ

-- keys by their texts
abbrev by_texts : Bytes → Bytes → Ordering
by_texts j k = ordering_then (by_bytes (text0 j) (text0 k)) (by_bytes (text1 j) (text1 k))

-- the first key of all is above k
abbrev AreAbove : Bytes → List Triple → Type 0
AreAbove k ts = AllByRecursion (λ t. by_bytes k t.0 ≡ Less) ts

all_above : (k : Bytes) (m : Rows) → AllByRecursion (λ j. by_bytes k j ≡ Less) (keys_of m) → AreAbove k (triples m)
all_above k [] above = tt
all_above k ((j, []) ∷ m) above = all_above k m above.1
all_above k ((j, p ∷ ps) ∷ m) above = (above.0, all_above k ((j, ps) ∷ m) above)

-- a pair is below those after it in its row, and below those of rows above
pair_below : (k j : Bytes) (ps : List (Bytes × Bytes)) (ts : List Triple) → length k < 2 ^ 32 → AllByRecursion (λ i. by_bytes j i ≡ Less) (keys_of ps) →
    AreAbove k ts → AreShort (row_triples k ps ++ ts) → AllByRecursion (λ q. by_texts (pair_key k j) q ≡ Less) (keys_of (map entry (row_triples k ps ++ ts)))
pair_below k j [] [] s below above short = tt
pair_below k j [] (t ∷ ts) s below above short =
    (rw (first_back k j s, first_back t.0 t.1 short.0, above.0) refl, pair_below k j [] ts s tt above.1 short.1)
pair_below k j (p ∷ ps) ts s below above short = (
  rw (first_back k j s, first_back k p.0 s, second_back k j s, second_back k p.0 s, tied_itself nat_list_cmp_total k, below.0) refl,
  pair_below k j ps ts s below.1 above short.1,
)

row_sorted : (k : Bytes) (ps : List (Bytes × Bytes)) (ts : List Triple) → IsStrictlySortedBy by_bytes (keys_of ps) → AreAbove k ts →
    AreShort (row_triples k ps ++ ts) → (AreShort ts → IsStrictlySortedBy by_texts (keys_of (map entry ts))) →
    IsStrictlySortedBy by_texts (keys_of (map entry (row_triples k ps ++ ts)))
unfolding IsStrictlySortedBy
row_sorted k [] ts up above short sorted = sorted short
row_sorted k (p ∷ ps) ts up above short sorted = (
  pair_below k p.0 ps ts short.0 (sorted_head by_bytes p.0 (keys_of ps) up) above short.1,
  row_sorted k ps ts (sorted_tail by_bytes p.0 (keys_of ps) up) above short.1 sorted,
)

all_sorted : (m : Rows) → IsWell by_bytes by_bytes m → AreShort (triples m) → IsStrictlySortedBy by_texts (keys_of (entries m))
unfolding IsStrictlySortedBy
all_sorted [] well short = tt
all_sorted (r ∷ m) well short =
    row_sorted r.0 r.1 (triples m) well.1.0.1 (all_above r.0 m (sorted_head by_bytes r.0 (keys_of m) well.0)) short
    (all_sorted m (sorted_tail by_bytes r.0 (keys_of m) well.0, well.1.1))

-- so keys whose first texts are short differ
apart : (m : Rows) → IsWell by_bytes by_bytes m → AreShort (triples m) → AreApartBelow key_order (keys_of (entries m)) (length (keys_of (entries m)))
apart m well short i j less within equal =
    let ks = keys_of (entries m) in
    let below = Less-from_sorted by_texts ks i j [] (all_sorted m well short) less within in
    let tied = λ (k : Bytes). tied_itself nat_list_cmp_total k in
    let itself : by_texts (nth ks i) (nth ks j) ≡ Equal = rw (exact_keys (nth ks i) (nth ks j) equal, tied (text0 (nth ks j)), tied (text1 (nth ks j))) refl in
    absurd cc

-- ---- why there is no table

-- keys that are taken are fewer than 2 ^ 32
few_taken : (ks : List Bytes) → takes_pushes (takes_insert 2) [] ks ≡ true → length ks < 2 ^ 32
few_taken [] t = omega arith
few_taken (k ∷ []) t = omega arith
few_taken (k ∷ j ∷ ks) t =
    let all = several_taken 2 (omega arith) (omega arith) (k ∷ j ∷ ks) (omega arith) in
    let size = size_total 2 (k ∷ j ∷ ks) in
    grind (arith, nat_tests)

pub refused : (m : Rows) → IsWell by_bytes by_bytes m → (e : HashError) → IsNoTable key_order key_hashed (fit16 (entries m)) (entries m) e →
    IsNotFrozen m (freeze_error e)
refused m well TooMany many =
    let ks = keys_of (entries m) in
    false_from_ne_true (fit16 (entries m)) (λ fits. let few = few_taken ks (grind arith) in omega (arith, few, many, length-keys_of (entries m)))
refused m well TooLarge h = h.1
refused m well (Repeated first second) h =
    let repeat = h.2 in absurd (apart m well (shorts m h.1) first second repeat.earlier repeat.within repeat.equal)
refused m well (NoPlace bucket) h = (h.1, h.3)
refused m well Memory h = tt

-- pairs of which one has a text that is too long are not taken
long_unfit : (done es : List (Bytes × Bytes)) (t : Triple) (ts : List Triple) → 2 ^ 32 ≤ length t.0 → done ++ map entry (t ∷ ts) ≡ es → fit16 es ≡ false
long_unfit done es t ts long is =
    false_from_ne_true (fit16 es) (λ fits.
    let all = rw (← is, map-append) at (All-from_recursion (λ k. length k < 2 ^ 16) (keys_of es) (all_short [] (keys_of es) (grind arith))) in
    let key = pair_key t.0 t.1 in
    let last = All-contains (λ k. length k < 2 ^ 16) _ key all (Contains-append_right (keys_of done) _ key (0, omega arith, refl)) in
    omega (arith, last, long, length-append (le 4 (length t.0)) (t.0 ++ t.1), length-append t.0 t.1))

-- ---- rows that are gathered

pub one_row : (done : List (Bytes × Bytes)) (k : Bytes) (ps : List (Bytes × Bytes)) (rest : Rows) (es : List (Bytes × Bytes)) →
    done ++ entries ((k, ps) ∷ rest) ≡ es → (done ++ map entry (row_triples k ps)) ++ entries rest ≡ es
one_row done k ps rest es is = simp append_assoc (simp map-append at is)

-- a row whose first text is too long is in no table
pub row_refused : (m : Rows) (done : List (Bytes × Bytes)) (k : Bytes) (ps : List (Bytes × Bytes)) (rest : Rows) →
    done ++ entries ((k, ps) ∷ rest) ≡ entries m →
    0 < length ps → (e : FreezeError) → (e ≡ FreezeError.Memory) ⊎ ((e ≡ FreezeError.TooLarge) × (2 ^ 32 ≤ length k)) → IsNotFrozen m e
row_refused m done k ps rest is some e (inl memory) = rw memory tt
row_refused m done k [] rest is some e (inr large) = absurd (omega (arith, some))
row_refused m done k (p ∷ ps) rest is some e (inr large) = rw large.0 (long_unfit done (entries m) (k, p.0, p.1) (row_triples k ps ++ triples rest) large.1 is)
