-- When the pairs of a map, put one after another, are refused: where one of its lists takes too little.
use Rattle.zv_layers.proofs.Common.{◌&&◌, ◌+◌, ◌-◌, ◌<◌, ◌^◌, ◌∙◌, ◌∷◌, ◌≡◌, ◌≤◌, ◌⊎◌, All, AreInOrder, Bool, Bytes, Err, IfErr, IsErrAnd, IsFlat, IsWell, List}
use Rattle.zv_layers.proofs.Common.{Lists, None, Ok, Option, Result, Rows, Some, Triple, [], ap, arith, before, by_bytes, false, find, first_refusal, firsts}
use Rattle.zv_layers.proofs.Common.{if◌then◌else◌, inl, inr, insert, is_none, length, length-append, length-map, lists_fault, none_well, not, own, place_of}
use Rattle.zv_layers.proofs.Common.{put, put_all, put_well, refl, refusal, rows_in, seconds, size, suc, sum_by-insert, sym, takes_insert, takes_pushes, triples}
use Rattle.zv_layers.proofs.Common.{true, values, zero, ℕ}
use Rattle.std.proofs.lemmas.Bool.Decides.{nat_tests}
use Rattle.std.proofs.lemmas.Cmp.{nat_list_cmp_total as total}
use Rattle.std.proofs.lemmas.List.Edits.{length-insert}
use Rattle.zv_map.proofs.Places.{gap_within}
use Rattle.zv_map.specs.FlexLaws.{four_fits, four_positive}
use Rattle.zv_map.specs.declared.error.MapError.{MapError}
use Rattle.zv_map2d.proofs.Flat.{place_within}
use Rattle.zv_map2d.proofs.Places.{find_is, fits_is, gap_there, pair_there, put_is}
use Rattle.zv_map2d.proofs.Splices.{pair_added, row_added, start_within, value_set}
use Rattle.zv_map2d.specs.Fits.{fits, texts_rule}
use Rattle.zv_map2d.specs.Places.{IsPlace, find_at, fits_at, put_at}
use Rattle.zv_map2d.specs.Refusals.{is_full, refusal_of}
use Rattle.zv_map2d.specs.Views.{Map2d}
use Rattle.zv_map2d.specs.declared.error.Map2dError.{Map2dError}
use Rattle.zv_map2d.specs.declared.error.Map2dError.TheVariants.{Memory, TooLarge, TooMany}
use Rattle.zv_map2d.specs.declared.place.Place.{Place}
use Rattle.zv_map2d.specs.declared.place.Place.TheVariants.{InRow, NewRow, Pair}
use Rattle.zv_map2d_laws.proofs.Checks.{held_fault}
use Rattle.zv_map2d_laws.proofs.Laid.{over_none}
use Rattle.zv_owned.proofs.Pushes.{several_taken}
use Rattle.zv_owned.proofs.Sizes.{size_total}
use Rattle.zv_layers.proofs.Gathered.{ends_below}

-- ---- what a list takes

-- the empty list takes the elements, one after another
abbrev pub takes_list : List Bytes → Bool
takes_list xs = takes_pushes (takes_insert 4) [] xs

pub small_taken : (xs : List Bytes) → size 4 xs < 2 ^ 32 - 1 → takes_list xs ≡ true
small_taken [] small = refl
small_taken (x ∷ []) small = let all = size_total 4 (x ∷ []) in grind (arith, nat_tests)
small_taken (x ∷ y ∷ xs) small = let all = several_taken 4 four_positive four_fits (x ∷ y ∷ xs) (omega arith) in grind (arith, nat_tests)

-- a list whose elements it takes has few
pub few_taken : (xs : List Bytes) → takes_list xs ≡ true → length xs < 4294967295
few_taken xs taken = let all = several_taken 4 four_positive four_fits xs in let bytes = size_total 4 xs in grind (arith, nat_tests)

more_size : (xs : List Bytes) (i : ℕ) (e : Bytes) → i ≤ length xs → size 4 (insert xs i e) ≡ size 4 xs + (4 + length e)
more_size xs i e h = omega (arith, size_total 4 (insert xs i e), size_total 4 xs, sum_by-insert (λ x. length x) xs i e, length-insert xs i e h)

-- an element more, wherever it is, is taken where the others are, and then it
one_more : (xs : List Bytes) (i : ℕ) (e : Bytes) → i ≤ length xs → takes_list (insert xs i e) ≡ (takes_list xs && takes_insert 4 xs (length e))
one_more [] zero e h = grind arith
one_more [] (suc i) e h = absurd (omega arith)
one_more (x ∷ xs) i e h =
    let count : 1 < length (insert (x ∷ xs) i e) = omega (arith, length-insert (x ∷ xs) i e h) in
    let few = small_taken (x ∷ xs) in
    let more = more_size (x ∷ xs) i e h in rw (several_taken 4 four_positive four_fits (insert (x ∷ xs) i e) count) (grind (arith, nat_tests))

-- ---- what a put leaves

-- the lists of a map take their elements
abbrev pub takes : Rows → Bool
takes m = takes_list (firsts m) && (takes_list (seconds m) && takes_list (values m))

takes_are : (n : Rows) {k0s : List Bytes} {es : List ℕ} {k1s vs : List Bytes} → IsFlat k0s es k1s vs n →
    takes n ≡ (takes_list k0s && (takes_list k1s && takes_list vs))
takes_are n flat = rw (← flat.firsts_are, ← flat.seconds_are, ← flat.values_are) refl

-- no pair more, or a new one, and then the lists take their elements where they did and it fits
module _ (m : Rows) (k0 k1 v : Bytes) where
  abbrev IsPut : Option Bytes → Bool → Rows → Type 0
  IsPut found fit n = (length (seconds n) ≤ length (seconds m))
      ⊎ ((is_none found ≡ true) × (length (seconds n) ≡ length (seconds m) + 1) × (takes n ≡ (takes m && fit)))

  there : (p : Place) → IsPlace by_bytes by_bytes m k0 k1 p → IsPut (find_at m p) (fits_at texts_rule m k0 k1 v p) (put_at m k0 k1 v p)
  there (Pair i j) h =
      let w = pair_there by_bytes by_bytes m k0 k1 i j h in
      inl (omega (arith, ap length (value_set (own m) i j (before m i + j) w.0 refl v w.1).seconds_are))
  there (InRow i j) h =
      let w = gap_there by_bytes by_bytes m k0 k1 i j h in
      let new = pair_added (own m) i j (before m i + j) w.0 refl k1 v w.1 in
      let key = place_within (λ q. q.0) m i w.0 j w.1 in
      let s = one_more (seconds m) (before m i + j) k1 key in
      let t = one_more (values m) (before m i + j) v (place_within (λ q. q.1) m i w.0 j w.1) in
      inr (refl, sym (ap length new.seconds_are) ∙ length-insert (seconds m) (before m i + j) k1 key, takes_are _ new ∙ rw (s, t) (grind arith))
  there (NewRow i) h =
      let w = gap_within by_bytes k0 m i h in
      let new = row_added (own m) i (before m i) k0 k1 v w refl in
      let f = one_more (firsts m) i k0 (omega (arith, w, length-map m (λ q. q.0))) in
      let key = start_within (λ q. q.0) m i in
      let s = one_more (seconds m) (before m i) k1 key in
      let t = one_more (values m) (before m i) v (start_within (λ q. q.1) m i) in
      inr (refl, sym (ap length new.seconds_are) ∙ length-insert (seconds m) (before m i) k1 key, takes_are _ new ∙ rw (f, s, t) (grind arith))

  leaves : IsWell by_bytes by_bytes m → IsPut (find by_bytes by_bytes m k0 k1) (fits texts_rule by_bytes by_bytes m k0 k1 v) (put by_bytes by_bytes m k0 k1 v)
  leaves well =
      let p = place_of m k0 k1 well in
      rw (fits_is total total m k0 k1 texts_rule v p.0 p.1, put_is total total m k0 k1 v p.0 p.1, find_is total total m k0 k1 p.0 p.1) (there p.0 p.1)

-- ---- the pairs, put one after another

-- each put adds one pair at most
most : (m : Rows) (ts : List Triple) → IsWell by_bytes by_bytes m → length (seconds (put_all by_bytes by_bytes m ts)) ≤ length (seconds m) + length ts
most m [] well = omega arith
most m (t ∷ ts) well =
    let rest = most (put by_bytes by_bytes m t.0 t.1 t.2) ts (put_well total total m t.0 well t.1 t.2) in
    elim (leaves m t.0 t.1 t.2 well) [ inl same ↦ omega arith | inr new ↦ omega (arith, new.1) ]

one_put : (a fit new full : Bool) (rest all : Option Map2dError) → (a ≡ true → full ≡ false) → new ≡ true → (if a && fit then rest else Some TooLarge) ≡ all →
    (if a then if not fit then Some TooLarge else if new && full then Some TooMany else rest else Some TooLarge) ≡ all
one_put a fit new full rest all free is = grind arith

not_full : (m : Rows) → takes m ≡ true → is_full m ≡ false
not_full m taken = let few = few_taken (seconds m) in grind (arith, nat_tests)

-- where each is new, none is refused, unless the lists of all don't take their elements
refused : (m : Rows) (ts : List Triple) → IsWell by_bytes by_bytes m → length (seconds (put_all by_bytes by_bytes m ts)) ≡ length (seconds m) + length ts →
    (if takes m then first_refusal texts_rule by_bytes by_bytes m ts else Some TooLarge)
    ≡ (if takes (put_all by_bytes by_bytes m ts) then None else Some TooLarge)
refused m [] well new = refl
refused m (t ∷ ts) well new =
    let n = put by_bytes by_bytes m t.0 t.1 t.2 in
    let up = put_well total total m t.0 well t.1 t.2 in
    elim (leaves m t.0 t.1 t.2 well) [
      | inl same ↦ absurd (omega (arith, most n ts up))
      | inr one ↦ one_put (takes m) _ _ (is_full m) _ _ (not_full m) one.0 (rw one.2 at (refused n ts up (omega (arith, one.1))))
    ]

triples_count : (m : Rows) → length (triples m) ≡ length (seconds m)
triples_count [] = refl
triples_count (r ∷ m) = grind (arith, length-append, length-map, triples_count m)

-- a map is refused as too large, unless each of its lists takes its elements
pub refusal_is : (m : Rows) → IsWell by_bytes by_bytes m → refusal m ≡ (if takes m then None else Some TooLarge)
refusal_is m well =
    let same = over_none m well in
    refused [] (triples m) (none_well by_bytes by_bytes refl) (rw same (omega (arith, triples_count m)))
    ∙ ap (λ n. if takes n then None else Some TooLarge) same

-- ---- a map whose lists are given

module _ {c : Lists} (good : AreInOrder c) where
  abbrev pub takes_all : Bool
  takes_all = takes_list c.keys0 && (takes_list c.keys1 && takes_list c.values)

  lists_refused : refusal (rows_in c) ≡ (if takes_all then None else Some TooLarge)
  lists_refused = refusal_is (rows_in c) good.well ∙ ap (λ b. if b then None else Some TooLarge) (takes_are (rows_in c) good.flat)

  pub accepted : takes_list c.keys0 ≡ true → takes_list c.keys1 ≡ true → takes_list c.values ≡ true → refusal (rows_in c) ≡ None
  accepted a b d = lists_refused ∙ rw (a, b, d) refl

  -- why a list is refused is why the map is
  pub fails : (xs : List Bytes) → (takes_list xs ≡ false → takes_all ≡ false) → (error : MapError) (result : Result Map2d Map2dError) →
      (error ≡ MapError.TooLarge → takes_list xs ≡ false) → IsErrAnd result (λ e. e ≡ refusal_of error) →
      IfErr result (λ e. (e ≡ Memory) ⊎ (refusal (rows_in c) ≡ Some e))
  fails xs part error (Ok r) large is = tt
  fails xs part MapError.TooLarge (Err e) large is = inr (lists_refused ∙ ap (λ b. if b then None else Some TooLarge) (part (large refl)) ∙ ap Some (sym is))
  fails xs part MapError.Memory (Err e) large is = inl is

  -- each end of a row is a number of a joiner
  pub ends_fit : takes_list c.keys1 ≡ true → All (λ end. end < 4294967296) c.joiner
  ends_fit taken =
      let few = few_taken c.keys1 taken in
      rw good.flat.ends_are (ends_below (rows_in c) (omega (arith, few, ap length good.flat.seconds_are)))

  -- they pass the checks of a parse
  pub unfaulted : lists_fault by_bytes by_bytes c ≡ None
  unfaulted = held_fault by_bytes by_bytes c (rows_in c) (good.flat, good.well)
