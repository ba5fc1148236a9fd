-- A map laid over another is its rows laid over the other's, one after another; and the laws of overlays.
use Rattle.zv_map2d.proofs.Common.{◌++◌, ◌∷◌, ◌≡◌, AllByRecursion, Bytes, IsWell, List, None, Option, Rows, Some, Triple, [], arith, firsts, look_up}
use Rattle.zv_map2d.proofs.Common.{put, put_all, refl, row, seconds}
use Rattle.std.proofs.Common.{◌∙◌, Greater, ap, sym, unwrap_or}
use Rattle.std.proofs.lemmas.Cmp.{nat_list_cmp_total as total, tied_itself}
use Rattle.std.proofs.lemmas.Map.Keys.{sorted_tail}
use Rattle.std.proofs.lemmas.Map.Lookups.{exact_bytes}
use Rattle.std.specs.List.Sorted.{IsStrictlySortedBy}
use Rattle.std.specs.Option.{option_or}
use Rattle.std.specs.Ordering.{ordering_reverse}
use Rattle.std.specs.Prelude.{⊤}
use Rattle.zv_map.proofs.Places.{look_up-insert_entry}
use Rattle.zv_map.specs.Maps.{IsMap, insert_entry}
use Rattle.zv_map2d.proofs.Well.{put_well}
use Rattle.zv_map2d.specs.Appending.{last_given}
use Rattle.zv_map2d.specs.Image.{by_bytes}
use Rattle.zv_map2d.specs.Rows.{IsRow}
use Rattle.zv_map2d_laws.proofs.FiniteMap.{keeps_last, same_found}
use Rattle.zv_map2d_laws.specs.Overlays.{Associative, EmptyOver, EmptyUnder, FoundInUpper, IsInOrder, OnlyOverlay, OverItself, OverlayInOrder, found, joined}
use Rattle.zv_map2d_laws.specs.Overlays.{laid, laid_pairs, laid_rows, later, overlay, row_triples, triples}

-- nothing is said of each
pub anything : {X : Type 0} (xs : List X) → AllByRecursion (λ x. ⊤) xs
anything [] = tt
anything (x ∷ xs) = (tt, anything xs)

-- what was put for a key gives way to what is put for it later
pub again : {X : Type 0} (m : List (Bytes × X)) (k : Bytes) (x y : X) →
    insert_entry by_bytes (insert_entry by_bytes m k x) k y ≡ insert_entry by_bytes m k y
again [] k x y = rw (tied_itself total k) refl
again (e ∷ m) k x y = let same = tied_itself total k in let more = again m k x y in grind arith

module _ {X : Type 0} (join : X → X → X) where
  -- what is below all that is laid stays first
  pub past : (p : Bytes × X) (m es : List (Bytes × X)) → IsMap by_bytes (p ∷ es) → laid join (p ∷ m) es ≡ p ∷ laid join m es
  unfolding IsStrictlySortedBy
  past p m [] up = refl
  past p m (e ∷ es) up =
      let over : by_bytes e.0 p.0 ≡ Greater = total.antisymm e.0 p.0 ∙ ap ordering_reverse up.0.0 in
      rw over (past p (insert_entry by_bytes m e.0 (joined join (look_up by_bytes m e.0) e.1)) es (up.0.1, up.1.1))

  -- what is laid on nothing is left as it is
  pub alone : (es : List (Bytes × X)) → IsMap by_bytes es → laid join [] es ≡ es
  alone [] up = refl
  alone (e ∷ es) up = past e [] es up ∙ ap (λ l. e ∷ l) (alone es (sorted_tail by_bytes _ _ up))

-- ---- pairs put into a map, a row's together

pub all_after : (m : Rows) (xs ys : List Triple) → put_all by_bytes by_bytes m (xs ++ ys) ≡ put_all by_bytes by_bytes (put_all by_bytes by_bytes m xs) ys
all_after m [] ys = refl
all_after m (t ∷ xs) ys = all_after (put by_bytes by_bytes m t.0 t.1 t.2) xs ys

pub puts_in_order : (m : Rows) (ts : List Triple) → IsWell by_bytes by_bytes m → IsWell by_bytes by_bytes (put_all by_bytes by_bytes m ts)
puts_in_order m [] well = well
puts_in_order m (t ∷ ts) well = puts_in_order (put by_bytes by_bytes m t.0 t.1 t.2) ts (put_well total total m t.0 well t.1 t.2)

-- the later value counts
later_joined : (old : Option Bytes) (new : Bytes) → joined later old new ≡ new
later_joined None new = refl
later_joined (Some old) new = refl

-- pairs that are put into the row of a key are laid over it
put_there : (m : Rows) (k : Bytes) (r : List (Bytes × Bytes)) (k1 v : Bytes) →
    put by_bytes by_bytes (insert_entry by_bytes m k r) k k1 v ≡ insert_entry by_bytes m k (insert_entry by_bytes r k1 v)
put_there m k r k1 v = rw (look_up-insert_entry total m k k r, tied_itself total k) (again m k r (insert_entry by_bytes r k1 v))

into_row : (m : Rows) (k : Bytes) (r ps : List (Bytes × Bytes)) →
    put_all by_bytes by_bytes (insert_entry by_bytes m k r) (row_triples k ps) ≡ insert_entry by_bytes m k (laid_pairs r ps)
into_row m k r [] = refl
into_row m k r (p ∷ ps) =
    ap (λ n. put_all by_bytes by_bytes n (row_triples k ps)) (put_there m k r p.0 p.1)
    ∙ rw (later_joined (look_up by_bytes r p.0) p.1) (into_row m k (insert_entry by_bytes r p.0 p.1) ps)

-- and so over what a key has
row_laid : (m : Rows) (k : Bytes) (ps : List (Bytes × Bytes)) → IsRow by_bytes (k, ps) →
    put_all by_bytes by_bytes m (row_triples k ps) ≡ insert_entry by_bytes m k (joined laid_pairs (look_up by_bytes m k) ps)
row_laid m k [] full = absurd (omega (arith, full.0))
row_laid m k (p ∷ ps) full =
    into_row m k (insert_entry by_bytes (row by_bytes m k) p.0 p.1) ps ∙ ap (insert_entry by_bytes m k) (over_row (look_up by_bytes m k))
  where
    over_row : (old : Option (List (Bytes × Bytes))) →
        laid_pairs (insert_entry by_bytes (unwrap_or old []) p.0 p.1) ps ≡ joined laid_pairs old (p ∷ ps)
    over_row None = alone later (p ∷ ps) full.1
    over_row (Some old) = rw (later_joined (look_up by_bytes old p.0) p.1) refl

pub overlay_laid : (o m : Rows) → AllByRecursion (IsRow by_bytes) o → overlay m o ≡ laid_rows m o
overlay_laid [] m rows = refl
overlay_laid (r ∷ o) m rows = rw (all_after m (row_triples r.0 r.1) (triples o), row_laid m r.0 r.1 rows.0) (overlay_laid o _ rows.1)

-- a map laid over the empty one
pub over_none : EmptyUnder
over_none m well = overlay_laid m [] well.1 ∙ alone laid_pairs m well.0

-- ---- what is found

given_after : (xs ys : List Triple) (k0 k1 : Bytes) → last_given by_bytes by_bytes (xs ++ ys) k0 k1
    ≡ option_or (last_given by_bytes by_bytes ys k0 k1) (last_given by_bytes by_bytes xs k0 k1)
given_after [] ys k0 k1 = grind arith
given_after (t ∷ xs) ys k0 k1 = let more = given_after xs ys k0 k1 in grind arith

given_once : (m : Rows) (k0 k1 : Bytes) → IsInOrder m → last_given by_bytes by_bytes (triples m) k0 k1 ≡ found m k0 k1
given_once m k0 k1 well = sym (keeps_last by_bytes by_bytes total total (triples m) k0 k1) ∙ ap (λ n. found n k0 k1) (over_none m well)

pub found_in_upper : FoundInUpper
found_in_upper m o k0 k1 wm wo =
    let all = given_after (triples m) (triples o) k0 k1 in
    let last = keeps_last by_bytes by_bytes total total (triples m ++ triples o) k0 k1 in
    rw (← given_once o k0 k1 wo, ← given_once m k0 k1 wm, ← all, ← last, all_after [] (triples m) (triples o), over_none m wm) refl

-- ---- which map it is

pub overlay_in_order : OverlayInOrder
overlay_in_order m o well = puts_in_order m (triples o) well

-- maps in order in which the same is found are the same
pub found_same : (m n : Rows) → IsInOrder m → IsInOrder n → ((k0 k1 : Bytes) → found m k0 k1 ≡ found n k0 k1) → m ≡ n
found_same m n wm wn same =
    let exact = λ (a b : Bytes) (h k : ⊤). exact_bytes a b in
    same_found total total (λ k. ⊤) (λ k. ⊤) exact exact m n wm wn (anything (firsts m)) (anything (firsts n)) (anything (seconds m)) (anything (seconds n))
    (λ k0 k1 h k. same k0 k1)

pub only_overlay : OnlyOverlay
only_overlay m o n wm wo wn same =
    found_same n (overlay m o) wn (overlay_in_order m o wm) (λ k0 k1. same k0 k1 ∙ sym (found_in_upper m o k0 k1 wm wo))

pub associative : Associative
associative m o p wm wo wp =
    only_overlay m (overlay o p) (overlay (overlay m o) p) wm (overlay_in_order o p wo) (overlay_in_order (overlay m o) p (overlay_in_order m o wm))
    (λ k0 k1. let outer = found_in_upper (overlay m o) p k0 k1 (overlay_in_order m o wm) wp in
    let inner = found_in_upper m o k0 k1 wm wo in let other = found_in_upper o p k0 k1 wo wp in grind arith)

pub over_itself : OverItself
over_itself m well = sym (only_overlay m m m well well well (λ k0 k1. let one = found m k0 k1 in grind arith))

pub empty_over : EmptyOver
empty_over m = refl
