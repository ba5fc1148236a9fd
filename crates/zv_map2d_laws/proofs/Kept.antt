-- A change of a map keeps its keys texts, and its lists such that they can be written.
use Rattle.zv_map2d.proofs.Common.{◌≡◌, ℕ, suc, ◌+◌, ◌≤◌, ◌==◌, true, List, length, None, refl, sym, ◌∙◌, ap, arith, length-map, insert}
use Rattle.zv_map2d.proofs.Common.{remove, at_within, values_with, keys_of, Bytes, IsPlace, del_at, fits_at, put_at, Rows, IsFlat, IsWell, before, row_at, row}
use Rattle.zv_map2d.proofs.Common.{del, ends, firsts, seconds, values}
use Rattle.std.proofs.lemmas.Bool.{and_parts, cond_both}
use Rattle.std.proofs.lemmas.Bool.Decides.{nat_tests}
use Rattle.std.proofs.lemmas.Cmp.{nat_list_cmp_total as total}
use Rattle.std.proofs.lemmas.List.Elements.{All-append, All-drop, All-from_recursion, All-take, recursion_from_All}
use Rattle.zv_map.proofs.Places.{by_place, gap_within, keys_with}
use Rattle.zv_ule.specs.Kinds.{text_fault}
use Rattle.zv_var.specs.Format.{codable}
use Rattle.zv_owned.proofs.Codable.{insert_codable, replace_codable, remove_codable}
use Rattle.zv_owned.specs.Size.{takes_insert}
use Rattle.zv_map2d.specs.Fits.{fits_texts_in, texts_rule, texts_rule_in}
use Rattle.zv_map2d.specs.Image.{by_bytes, AreTexts, Stands, canon}
use Rattle.zv_map2d.specs.declared.place.Place.{Place}
use Rattle.zv_map2d.specs.declared.place.Place.TheVariants.{Pair, InRow, NewRow}
use Rattle.zv_map2d.proofs.Flat.{pair_within, place_within, row_well}
use Rattle.zv_map2d.proofs.Places.{del_is, fits_by_is, fits_is, pair_there, put_is}
use Rattle.zv_map2d.proofs.Splices.{row_added, row_removed, pair_added, pair_removed, start_within, value_set}
use Rattle.zv_map2d.proofs.Well.{put_well, del_well, row_holds}
use Rattle.zv_map2d_laws.specs.Laws.{CanonAgain, DelCodable, DelKeeps, FitsAlike, IsCodable, PutCodable, PutKeeps, SameCanon}
use Rattle.zv_map2d_laws.proofs.FiniteMap.{keys_rows, rows_keys}
use Rattle.zv_map2d_laws.proofs.Canon.{canon_short}
use Rattle.zv_map2d_laws.proofs.Standing.{canon_stands, codable_lists, none_from_stands, one_map}

-- ---- the place of a pair of keys

-- each pair of keys has a place
pub place_of : (m : Rows) (k0 k1 : Bytes) → IsWell by_bytes by_bytes m → (p : Place) × IsPlace by_bytes by_bytes m k0 k1 p
place_of m k0 k1 well = by_place total k0 (firsts m) well.0 _
    (λ i at. by_place total k1 (keys_of (row_at m i)) (row_well by_bytes m i well.1 (at_within by_bytes k0 m i at)).1 _
    (λ j hit. (Pair i j, (at, hit))) (λ j gap. (InRow i j, (at, gap))))
    (λ i gap. (NewRow i, gap))

-- the lists of a map are its own
pub own : (m : Rows) → IsFlat (firsts m) (ends m) (seconds m) (values m) m
own m = record { firsts_are = refl; ends_are = refl; seconds_are = refl; values_are = refl }

-- ---- a removal

-- what a list without one element has where the list has it, a removal keeps for each of the three lists of a map
module _ (P : List Bytes → Type 0) (less : (xs : List Bytes) (i : ℕ) → P xs → P (remove xs i)) (m : Rows) (k0 k1 : Bytes) where
  abbrev IsKept : Rows → Type 0
  IsKept n = (P (firsts m) → P (firsts n)) × (P (seconds m) → P (seconds n)) × (P (values m) → P (values n))

  taken : (p : Place) → IsPlace by_bytes by_bytes m k0 k1 p → IsKept (del_at m p)
  taken (Pair i j) h =
      let w = pair_there by_bytes by_bytes m k0 k1 i j h in
      cond_both (length (row_at m i) == 1) _ _ IsKept
      (λ e. let f = row_removed (own m) i (before m i) w.0 (grind (arith, nat_tests)) refl in
      rw (← f.firsts_are, ← f.seconds_are, ← f.values_are) (less _ i, less _ (before m i), less _ (before m i)))
      (λ e. let f = pair_removed (own m) i j (before m i + j) w.0 refl w.1 in
      rw (← f.firsts_are, ← f.seconds_are, ← f.values_are) (λ q. q, less _ (before m i + j), less _ (before m i + j)))
  taken p h = (λ q. q, λ q. q, λ q. q)

  pub by_removal : IsWell by_bytes by_bytes m → IsKept (del by_bytes by_bytes m k0 k1)
  by_removal well = let p = place_of m k0 k1 well in rw (del_is total total m k0 k1 well p.0 p.1) (taken p.0 p.1)

-- ---- texts

abbrev IsText : Bytes → Type 0
IsText x = text_fault x ≡ None

pub put_texts : PutKeeps
put_texts m k0 k1 v a b t =
    let rows = rows_keys IsText m t.texts1 in
    let new = keys_with by_bytes (row by_bytes m k0) k1 IsText v b (row_holds by_bytes _ m k0 rows tt) in
    record {
      in_order = put_well total total m k0 t.in_order k1 v;
      texts0 = keys_with by_bytes m k0 IsText _ a t.texts0;
      texts1 = keys_rows IsText _ (values_with by_bytes m k0 _ _ new rows);
    }

texts_without : (xs : List Bytes) (i : ℕ) → AreTexts xs → AreTexts (remove xs i)
texts_without xs i all =
    let a = All-from_recursion IsText xs all in
    recursion_from_All IsText _ (All-append IsText _ _ (All-take IsText i xs a) (All-drop IsText (suc i) xs a))

pub del_texts : DelKeeps
del_texts m k0 k1 t =
    let keeps = by_removal AreTexts texts_without m k0 k1 t.in_order in
    record { in_order = del_well total total m k0 t.in_order k1; texts0 = keeps.0 t.texts0; texts1 = keeps.1 t.texts1 }

-- ---- lists that can be written

-- what fits at the place of the keys
fits_there : (w : ℕ) (m : Rows) (k0 k1 v : Bytes) (p : Place) → IsPlace by_bytes by_bytes m k0 k1 p →
    fits_texts_in w m k0 k1 v ≡ fits_at (texts_rule_in w) m k0 k1 v p
fits_there w m k0 k1 v p h = fits_by_is total total m k0 k1 _ (texts_rule_in w) v p h ∙ grind arith

pub fits_alike : FitsAlike
fits_alike w m k0 k1 v well =
    let p = place_of m k0 k1 well in fits_is total total m k0 k1 (texts_rule_in w) v p.0 p.1 ∙ sym (fits_there w m k0 k1 v p.0 p.1)

-- a map can be written where the lists that stand for it can
can_write : (n : Rows) {k0s : List Bytes} {es : List ℕ} {k1s vs : List Bytes} → IsFlat k0s es k1s vs n → codable 4 k0s ≡ true → codable 4 k1s ≡ true →
    codable 4 vs ≡ true → IsCodable n
can_write n flat a b c = record { keys0 = rw (← flat.firsts_are) a; keys1 = rw (← flat.seconds_are) b; values = rw (← flat.values_are) c }

-- a list with an element that it takes
more : (xs : List Bytes) (i : ℕ) (e : Bytes) → i ≤ length xs → takes_insert 4 xs (length e) ≡ true → codable 4 (insert xs i e) ≡ true
more = insert_codable 4 (omega arith) (omega arith)

put_there : (m : Rows) (k0 k1 v : Bytes) → IsCodable m → (p : Place) → IsPlace by_bytes by_bytes m k0 k1 p → fits_at texts_rule m k0 k1 v p ≡ true →
    IsCodable (put_at m k0 k1 v p)
put_there m k0 k1 v c (Pair i j) h fit =
    let w = pair_there by_bytes by_bytes m k0 k1 i j h in
    let new = replace_codable 4 (omega arith) (omega arith) (values m) (before m i + j) v (pair_within (λ q. q.1) m i w.0 j w.1) c.values fit in
    can_write _ (value_set (own m) i j (before m i + j) w.0 refl v w.1) c.keys0 c.keys1 new
put_there m k0 k1 v c (InRow i j) h fit =
    let w = at_within by_bytes k0 m i h.0 in
    let u = gap_within by_bytes k1 (row_at m i) j h.1 in
    let takes = and_parts _ _ fit in
    can_write _ (pair_added (own m) i j (before m i + j) w refl k1 v u) c.keys0
    (more (seconds m) _ k1 (place_within (λ q. q.0) m i w j u) takes.0) (more (values m) _ v (place_within (λ q. q.1) m i w j u) takes.1)
put_there m k0 k1 v c (NewRow i) h fit =
    let w = gap_within by_bytes k0 m i h in
    let all = and_parts _ _ fit in
    let takes = and_parts _ _ all.1 in
    can_write _ (row_added (own m) i (before m i) k0 k1 v w refl) (more (firsts m) i k0 (omega (arith, w, length-map m (λ q. q.0))) all.0)
    (more (seconds m) _ k1 (start_within (λ q. q.0) m i) takes.0) (more (values m) _ v (start_within (λ q. q.1) m i) takes.1)

pub put_codable : PutCodable
put_codable m k0 k1 v t c fit =
    let p = place_of m k0 k1 t.in_order in
    rw (put_is total total m k0 k1 v p.0 p.1) (put_there m k0 k1 v c p.0 p.1 (sym (fits_there 4 m k0 k1 v p.0 p.1) ∙ fit))

pub del_codable : DelCodable
del_codable m k0 k1 t c =
    let keeps = by_removal (λ xs. codable 4 xs ≡ true) (remove_codable 4 (omega arith) (omega arith)) m k0 k1 t.in_order in
    record { keys0 = keeps.0 c.keys0; keys1 = keeps.1 c.keys1; values = keeps.2 c.values }

-- ---- images

pub canon_again : CanonAgain
canon_again m t c l = let own = canon_stands m t c in (none_from_stands (canon m) m l own, λ n s. one_map (canon m) n m l s own)

-- the canonical image of a map that an image stands for stands for it
canon_of : (image : List ℕ) (m : Rows) → Stands image m → Stands (canon m) m
canon_of image m s = canon_stands m s.map (codable_lists s.spelled)

pub same_canon : SameCanon
same_canon image other m n l k s t =
    (ap canon, λ e. one_map (canon m) m n (omega (arith, canon_short image m s)) (canon_of image m s) (rw (← e) at (canon_of other n t)))
