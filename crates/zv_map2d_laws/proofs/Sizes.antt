-- How many bytes the lists of a map take with fields of four bytes.
use Rattle.zv_map2d.proofs.Common.{◌≡◌, ℕ, suc, ◌+◌, ◌-◌, ◌^◌, ◌<◌, ◌≤◌, Bool, true, List, [], ◌∷◌, length, Option, Some, None, inl, inr, refl}
use Rattle.zv_map2d.proofs.Common.{arith, insert, remove, set}
use Rattle.zv_map2d.proofs.Common.{at_within, gap_within, length-set, length-map, Bytes, IsPlace, put_at, Rows, IsFlat, before, row_at, firsts}
use Rattle.zv_map2d.proofs.Common.{seconds, values}
use Rattle.zv_map2d.proofs.Common.{find, look_up, if_found, take_all, drop_all, append-nil}
use Rattle.std.proofs.lemmas.Bool.{cases_lt}
use Rattle.std.proofs.lemmas.Bool.Decides.{nat_tests}
use Rattle.std.proofs.lemmas.Cmp.{nat_list_cmp_total as total}
use Rattle.std.proofs.lemmas.List.Edits.{length-insert, length-remove}
use Rattle.std.proofs.lemmas.List.Sums.{sum_by-insert, sum_by-set, sum_by-remove}
use Rattle.zv_owned.proofs.Sizes.{size_total}
use Rattle.zv_owned.specs.Size.{size, takes_insert, takes_replace}
use Rattle.zv_map2d.specs.Fits.{pair_fits, texts_rule}
use Rattle.zv_map2d.specs.Image.{by_bytes}
use Rattle.zv_map2d.specs.declared.place.Place.{Place}
use Rattle.zv_map2d.specs.declared.place.Place.TheVariants.{Pair, InRow, NewRow}
use Rattle.zv_map2d.proofs.Flat.{pair_within, place_within}
use Rattle.zv_map2d.proofs.Places.{pair_there, put_is}
use Rattle.zv_map2d.proofs.Splices.{pair_added, row_added, start_within, value_set}
use Rattle.zv_map2d_laws.specs.Sizes.{DelShrinks, ImageHolds, PutGrows, SmallFits, added_size, wide_size}
use Rattle.zv_map2d_laws.proofs.Canon.{long_image, twice}
use Rattle.zv_map2d_laws.proofs.Kept.{by_removal, own, place_of}
use Rattle.zv_map2d_laws.proofs.Standing.{length_frame}

insert_size : (xs : List Bytes) (i : ℕ) (e : Bytes) → i ≤ length xs → size 4 (insert xs i e) ≡ size 4 xs + (4 + length e)
insert_size xs i e h = omega (arith, size_total 4 (insert xs i e), size_total 4 xs, sum_by-insert (λ x. length x) xs i e, length-insert xs i e h)

set_size : (xs : List Bytes) (i : ℕ) (e : Bytes) → i < length xs → size 4 (set xs i e) ≤ size 4 xs + length e
set_size xs i e h = omega (arith, size_total 4 (set xs i e), size_total 4 xs, sum_by-set (λ x. length x) xs i e [] h, length-set xs i e)

remove_size : (n : ℕ) (xs : List Bytes) (i : ℕ) → size 4 xs ≤ n → size 4 (remove xs i) ≤ n
remove_size n xs i few = elim (cases_lt i (length xs)) [
  | inl h ↦ omega (arith, size_total 4 (remove xs i), size_total 4 xs, sum_by-remove (λ x. length x) xs i [] h, length-remove xs i h)
  | inr h ↦ rw (take_all i xs h, drop_all (suc i) xs (omega arith), append-nil) few
]

-- a map is as large as the lists that stand for it
sizes_are : (n : Rows) {k0s : List Bytes} {es : List ℕ} {k1s vs : List Bytes} → IsFlat k0s es k1s vs n →
    wide_size n ≡ size 4 k0s + size 4 k1s + size 4 vs
sizes_are n flat = rw (← flat.firsts_are, ← flat.seconds_are, ← flat.values_are) refl

put_there : (m : Rows) (k0 k1 v : Bytes) (p : Place) → IsPlace by_bytes by_bytes m k0 k1 p → wide_size (put_at m k0 k1 v p) ≤ wide_size m + added_size k0 k1 v
put_there m k0 k1 v (Pair i j) h =
    let w = pair_there by_bytes by_bytes m k0 k1 i j h in
    let n = pair_within (λ q. q.1) m i w.0 j w.1 in
    omega (arith, sizes_are _ (value_set (own m) i j (before m i + j) w.0 refl v w.1), set_size (values m) (before m i + j) v n)
put_there m k0 k1 v (InRow i j) h =
    let w = at_within by_bytes k0 m i h.0 in
    let u = gap_within by_bytes k1 (row_at m i) j h.1 in
    omega (
      arith,
      sizes_are _ (pair_added (own m) i j (before m i + j) w refl k1 v u),
      insert_size (seconds m) (before m i + j) k1 (place_within (λ q. q.0) m i w j u),
      insert_size (values m) (before m i + j) v (place_within (λ q. q.1) m i w j u),
    )
put_there m k0 k1 v (NewRow i) h =
    let w = gap_within by_bytes k0 m i h in
    omega (
      arith,
      sizes_are _ (row_added (own m) i (before m i) k0 k1 v w refl),
      insert_size (firsts m) i k0 (omega (arith, w, length-map m (λ q. q.0))),
      insert_size (seconds m) (before m i) k1 (start_within (λ q. q.0) m i),
      insert_size (values m) (before m i) v (start_within (λ q. q.1) m i),
    )

pub put_grows : PutGrows
put_grows m k0 k1 v well = let p = place_of m k0 k1 well in rw (put_is total total m k0 k1 v p.0 p.1) (put_there m k0 k1 v p.0 p.1)

pub del_shrinks : DelShrinks
del_shrinks m k0 k1 well =
    let kept = λ (n : ℕ). by_removal (λ xs. size 4 xs ≤ n) (remove_size n) m k0 k1 well in
    let a = (kept (size 4 (firsts m))).0 (omega arith) in
    let b = (kept (size 4 (seconds m))).1 (omega arith) in
    let c = (kept (size 4 (values m))).2 (omega arith) in
    omega arith

pub image_holds : ImageHolds
image_holds image m s = omega (
  arith,
  length_frame s.parts,
  long_image image s.lists s.parts s.formed,
  twice s.lists.keys0 true s.parts.keys0 (firsts m) s.spelled.keys0,
  twice s.lists.keys1 true s.parts.keys1 (seconds m) s.spelled.keys1,
  twice s.lists.values true s.parts.values (values m) s.spelled.values,
)

-- ---- what fits

takes_small : (xs : List Bytes) (n : ℕ) → size 4 xs + n + 4 < 2 ^ 32 → takes_insert 4 xs n ≡ true
takes_small [] n h = grind (arith, nat_tests)
takes_small (x ∷ xs) n h = grind (arith, nat_tests)

replaces_small : (xs : List Bytes) (old n : ℕ) → size 4 xs + n < 2 ^ 32 - 1 → takes_replace 4 xs old n ≡ true
replaces_small xs old n h = grind (arith, nat_tests)

-- what holds of all that may be found and of nothing
always : {X : Type 0} (o : Option X) (test : X → Bool) (missing : Bool) → ((x : X) → test x ≡ true) → missing ≡ true → if_found o test missing ≡ true
always (Some x) test missing f h = f x
always None test missing f h = h

pub small_fits : SmallFits
small_fits m k0 k1 v h =
    let a = takes_small (firsts m) (length k0) (omega arith) in
    let b = takes_small (seconds m) (length k1) (omega arith) in
    let c = takes_small (values m) (length v) (omega arith) in
    let pair : pair_fits texts_rule m k1 v ≡ true = rw (b, c) refl in
    always (find by_bytes by_bytes m k0 k1) _ _ (λ old. replaces_small (values m) (length old) (length v) (omega arith))
    (always (look_up by_bytes m k0) _ _ (λ r. pair) (rw (a, pair) refl))
