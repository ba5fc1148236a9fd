-- No pair of a frozen image within the limit is refused as it thaws.
use Rattle.zv_frozen.proofs.Common.{if◌then◌else◌, ◌&&◌, ◌*◌, ◌+◌, ◌-◌, ◌<◌, ◌==◌, ◌^◌, ◌∙◌, ◌∷◌, ◌≡◌, ◌≤◌, Bool, Bytes, FormError, IfSome, IsReadTable, IsWell}
use Rattle.zv_frozen.proofs.Common.{List, Map2dError, NeverRefused, None, Option, Rows, Some, Table, Triple, [], added_size, ap, arith, by_bytes, bytes_fault}
use Rattle.zv_frozen.proofs.Common.{cases_eq, cond_both, drop, false, find, first_len, first_refusal, fits_alike, frame_error, inl, inr, is_none, length}
use Rattle.zv_frozen.proofs.Common.{length-drop, length-take, list16, nat_list_cmp_total, nat_tests, none_well, not, nth, option_and_then, option_map}
use Rattle.zv_frozen.proofs.Common.{option_map_or, parts_in, put, put_grows, put_well, refl, seconds, size_total, slice_range, small_fits, split, suc, sum_by}
use Rattle.zv_frozen.proofs.Common.{sum_by-cons, sym, table_fault, text0, text1, texts_rule, triples_of, true, wide_size, zero, zip, ℕ}
use Rattle.zv_owned.specs.Size.{size}
use Rattle.zv_map2d.specs.declared.error.Map2dError.TheVariants.{TooLarge, TooMany}
use Rattle.zv_var.proofs.Encoding.{after_some, fault_after_none}
use Rattle.zv_var.proofs.Fields.{fault_some}
use Rattle.zv_var.proofs.Lists.{length-elements_after}
use Rattle.zv_var.proofs.Turns.{from_none, length_from_none}
use Rattle.zv_var.specs.Format.{body, count, elements, elements_after, elements_fault, ends, fault_after, list_fault, pieces}
use Rattle.zv_var.specs.Frame.{first_part}

-- ---- triples that are put

-- how much they add to the lists of a map at most
abbrev added : List Triple → ℕ
added ts = sum_by (λ t. added_size t.0 t.1 t.2) ts

-- one that fits in a map that is not full, and then the others
one_more : (fit new full : Bool) (rest : Option Map2dError) → fit ≡ true → full ≡ false → rest ≡ None →
    (if not fit then Some TooLarge else if new && full then Some TooMany else rest) ≡ None
one_more fit true full rest fits free is = rw (fits, free) is
one_more fit false full rest fits free is = rw fits is

few_accepted : (m : Rows) (ts : List Triple) → IsWell by_bytes by_bytes m → wide_size m + added ts < 2 ^ 32 - 1 →
    first_refusal texts_rule by_bytes by_bytes m ts ≡ None
few_accepted m [] well small = refl
few_accepted m (t ∷ ts) well small =
    let sum = sum_by-cons (λ (u : Triple). added_size u.0 u.1 u.2) t ts in
    let few : length (seconds m) < 4294967295 = omega (arith, size_total 4 (seconds m), small) in
    let later = put_well nat_list_cmp_total nat_list_cmp_total m t.0 well t.1 t.2 in
    one_more _ (is_none (find by_bytes by_bytes m t.0 t.1)) _ _
    (fits_alike 4 m t.0 t.1 t.2 well ∙ small_fits m t.0 t.1 t.2 (omega (arith, sum, small)))
    (grind (arith, nat_tests))
    (few_accepted (put by_bytes by_bytes m t.0 t.1 t.2) ts later (omega (arith, sum, small, put_grows m t.0 t.1 t.2 well)))

-- ---- the triples of keys and values

-- the texts of a key are no longer than it
split_small : (ks vs : List Bytes) → added (split (zip ks vs)) ≤ 3 * size 4 ks + size 4 vs
split_small [] vs = omega arith
split_small (k ∷ ks) [] = omega arith
split_small (k ∷ ks) (v ∷ vs) = omega (
  arith,
  sum_by-cons (λ (u : Triple). added_size u.0 u.1 u.2) (text0 k, text1 k, v) (split (zip ks vs)),
  split_small ks vs,
  size_total 4 (k ∷ ks),
  size_total 4 ks,
  size_total 4 (v ∷ vs),
  size_total 4 vs,
  sum_by-cons (λ (x : Bytes). length x) k ks,
  sum_by-cons (λ (x : Bytes). length x) v vs,
  length-take (first_len k) (drop 4 k),
  length-drop 4 k,
  length-drop (4 + first_len k) k,
)

-- ---- the parts of a frame

first_within : (n : ℕ) (b : List ℕ) → length b ≤ n → IfSome (first_part b) (λ cut. (length cut.0 ≤ n) × (length cut.1 ≤ n))
first_within n b short = grind (arith, nat_tests, length-take, length-drop)

-- each part is no longer than the frame
abbrev AreWithin : ℕ → List (List ℕ) → Type 0
AreWithin n ps = (i : ℕ) → length (nth ps i) ≤ n

one_within : (n : ℕ) (p : List ℕ) (rest : Option (List (List ℕ))) → length p ≤ n → IfSome rest (AreWithin n) →
    IfSome (option_map (λ ps. p ∷ ps) rest) (AreWithin n)
one_within n p None short all = tt
one_within n p (Some ps) short all = at
  where
    at : AreWithin n (p ∷ ps)
    at zero = short
    at (suc i) = all i

parts_within : (n k : ℕ) (b : List ℕ) → length b ≤ n → IfSome (parts_in k b) (AreWithin n)
parts_within n zero b short = cond_both (length b == 0) (Some []) None (λ o. IfSome o (AreWithin n)) (λ e i. omega arith) (λ e. tt)
parts_within n (suc k) b short = by (first_part b) (parts_within n k) (first_within n b short)
  where
    by : (o : Option (List ℕ × List ℕ)) → ((c : List ℕ) → length c ≤ n → IfSome (parts_in k c) (AreWithin n)) →
        IfSome o (λ cut. (length cut.0 ≤ n) × (length cut.1 ≤ n)) →
        IfSome (option_and_then (λ cut. option_map (λ rest. cut.0 ∷ rest) (parts_in k cut.1)) o) (AreWithin n)
    by None rest within = tt
    by (Some cut) rest within = one_within n cut.0 (parts_in k cut.1) within.0 (rest cut.1 within.1)

-- ---- the lists that are read of them

pieces_within : (d : List ℕ) (s : ℕ) (es : List ℕ) → s ≤ length d → elements_fault bytes_fault d s es ≡ None →
    sum_by (λ x. length x) (pieces d s es) + s ≤ length d
pieces_within d s [] low none = omega (arith, low)
pieces_within d s (e ∷ es) low none =
    let one = from_none bytes_fault d s e es none in
    let sum = sum_by-cons (λ (x : Bytes). length x) (slice_range d s e) (pieces d e es) in
    omega (arith, sum, length_from_none bytes_fault d s e es none, pieces_within d e es one.0.within one.1)

-- n elements, without their count
after_within : (n : ℕ) (b : List ℕ) → fault_after 2 bytes_fault n b ≡ None → size 4 (elements_after 2 n b) ≤ 2 * length b + 4
after_within zero b none = omega arith
after_within (suc n) b none =
    let held = fault_after_none 2 bytes_fault (suc n) b none (omega arith) in
    let within = pieces_within (body 2 (suc n) b) 0 (ends 2 (suc n) b) (omega arith) held.1.1 in
    let same = ap (sum_by (λ x. length x)) (after_some 2 (suc n) b (omega arith)) in
    let total = size_total 4 (elements_after 2 (suc n) b) in
    omega (arith, total, within, same, held.1.0, length-elements_after 2 (suc n) b, length-drop (2 * (suc n - 1)) b)

list_within : (b : List ℕ) → list16.fault b ≡ None → size 4 (list16.list b) ≤ 2 * length b
list_within b none = elim (cases_eq (length b) 0) [
  | inl empty ↦ let is : elements 2 b ≡ [] = grind (arith, nat_tests) in rw is (omega arith)
  | inr some ↦
      let long : 2 ≤ length b = grind (arith, nat_tests) in
      let sound : list_fault 2 bytes_fault b ≡ None = grind arith in
      let is : elements 2 b ≡ elements_after 2 (count 2 b) (drop 2 b) = grind (arith, nat_tests) in
      let after = after_within (count 2 b) (drop 2 b) (sym (fault_some 2 bytes_fault b (omega arith) long) ∙ sound) in
      rw is (omega (arith, after, length-drop 2 b, long))
]

table_within : (n : ℕ) (t : Table) (parts : Option (List (List ℕ))) → IfSome parts (AreWithin n) →
    option_map frame_error (option_map_or (table_fault list16 list16) parts (Some FormError.Frame)) ≡ None →
    IfSome parts (λ ps. IsReadTable list16 list16 ps t) → added (triples_of t) ≤ 8 * n
table_within n t None within none read = absurd cc
table_within n t (Some ps) within none read =
    let keys : size 4 t.keys ≤ 2 * length (nth ps 1) = rw read.keys (list_within (nth ps 1) (grind arith)) in
    let values : size 4 t.values ≤ 2 * length (nth ps 2) = rw read.values (list_within (nth ps 2) (grind arith)) in
    omega (arith, split_small t.keys t.values, keys, values, within 1, within 2)

pub never_refused : NeverRefused
never_refused bytes t short none read =
    let within = parts_within (length bytes) 3 bytes (omega arith) in
    few_accepted [] (triples_of t) (none_well by_bytes by_bytes refl)
    (omega (arith, short, table_within (length bytes) t (parts_in 3 bytes) within (grind arith) read))
