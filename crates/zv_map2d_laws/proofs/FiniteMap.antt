-- What is found in a map after a change, and that what is found is all of a map.
use Rattle.zv_map2d.proofs.Common.{◌≡◌, ◌<◌, ◌&&◌, List, [], ◌∷◌, ◌++◌, length, Option, Some, None, refl, arith, IfSome, IsTotalOrder, AllByRecursion, keys_of}
use Rattle.zv_map2d.proofs.Common.{values_of, look_up, Triple, put_all, Bytes, Order, Rows, IsWell, firsts, seconds, row, find, put, del}
use Rattle.std.proofs.Common.{Equal, cond}
use Rattle.std.proofs.lemmas.Bool.Decides.{nat_tests}
use Rattle.std.proofs.lemmas.List.Elements.{All-append, All-from_recursion, recursion_from_All}
use Rattle.std.specs.Cmp.{tied_itself}
use Rattle.std.specs.Option.{option_or, unwrap_or}
use Rattle.std.specs.Ordering.{is_eq}
use Rattle.zv_map.proofs.Places.{look_up-insert_entry, look_up-without_key, look_up_alike, maps_alike}
use Rattle.zv_map.specs.Keys.{IsElementOf}
use Rattle.zv_map2d.specs.Appending.{last_given}
use Rattle.zv_map2d.proofs.Well.{look_up_holds, row_holds, row_ordered, values_all}
use Rattle.zv_map2d_laws.specs.FiniteMap.{KeepsLast, PutIsFound, PutLeavesOthers, DelIsGone, DelLeavesOthers, FoundAlike, FoundInRow}

-- ---- after a change

module _ {order0 order1 : Order} (total0 : IsTotalOrder order0) (total1 : IsTotalOrder order1) (m : Rows) (k0 k1 j0 j1 : Bytes) where
  -- after a put the pair of keys has the new value, and any other pair what it had
  find-put : (v : Bytes) → find order0 order1 (put order0 order1 m k0 k1 v) j0 j1
      ≡ cond (is_eq (order0 k0 j0) && is_eq (order1 k1 j1)) (Some v) (find order0 order1 m j0 j1)
  find-put v =
      grind (arith, nat_tests, look_up_alike total0 m k0 j0, look_up-insert_entry total0 m k0 j0, look_up-insert_entry total1 (row order0 m k0) k1 j1 v)

  -- after a removal it has none
  find-del : IsWell order0 order1 m →
      find order0 order1 (del order0 order1 m k0 k1) j0 j1 ≡ cond (is_eq (order0 k0 j0) && is_eq (order1 k1 j1)) None (find order0 order1 m j0 j1)
  find-del well =
      let in_row = look_up-without_key total1 (row order0 m k0) k1 j1 (row_ordered total0 total1 m k0 well) in
      grind (arith, nat_tests, look_up_alike total0 m k0 j0, look_up-insert_entry total0 m k0 j0, look_up-without_key total0 m k0 j0 well.0, in_row)

pub put_is_found : PutIsFound
put_is_found order0 order1 total0 total1 m k0 k1 v = rw (find-put total0 total1 m k0 k1 k0 k1 v, tied_itself total0 k0, tied_itself total1 k1)

pub put_leaves_others : PutLeavesOthers
put_leaves_others order0 order1 total0 total1 m k0 k1 v j0 j1 other = rw (find-put total0 total1 m k0 k1 j0 j1 v, other)

pub del_is_gone : DelIsGone
del_is_gone order0 order1 total0 total1 m k0 k1 well = rw (find-del total0 total1 m k0 k1 k0 k1 well, tied_itself total0 k0, tied_itself total1 k1)

pub del_leaves_others : DelLeavesOthers
del_leaves_others order0 order1 total0 total1 m k0 k1 j0 j1 well other = rw (find-del total0 total1 m k0 k1 j0 j1 well, other)

-- ---- maps in which the same is found

-- what holds of each of two lists that were joined
parts : {X : Type 0} (P : X → Type 0) (xs ys : List X) → AllByRecursion P (xs ++ ys) → AllByRecursion P xs × AllByRecursion P ys
parts P [] ys all = (tt, all)
parts P (x ∷ xs) ys all = let t = parts P xs ys all.1 in ((all.0, t.0), t.1)

module _ (P : Bytes → Type 0) where
  -- what holds of each second key holds in each row
  pub rows_keys : (m : Rows) → AllByRecursion P (seconds m) → AllByRecursion (λ r. AllByRecursion P (keys_of r)) (values_of m)
  rows_keys [] all = tt
  rows_keys (r ∷ m) all = let t = parts P (keys_of r.1) (seconds m) all in (t.0, rows_keys m t.1)

  -- and back
  pub keys_rows : (m : Rows) → AllByRecursion (λ r. AllByRecursion P (keys_of r)) (values_of m) → AllByRecursion P (seconds m)
  keys_rows [] all = tt
  keys_rows (r ∷ m) all = recursion_from_All P _ (All-append P _ _ (All-from_recursion P _ all.0) (All-from_recursion P _ (keys_rows m all.1)))

-- a row that was looked up has pairs, so two keys with the same pairs both have a row or neither has
same_row : (a b : Option (List (Bytes × Bytes))) → IfSome a (λ r. 0 < length r) → IfSome b (λ r. 0 < length r) → unwrap_or a [] ≡ unwrap_or b [] → a ≡ b
same_row a b h k e = grind arith

module _ {order0 order1 : Order} (total0 : IsTotalOrder order0) (total1 : IsTotalOrder order1) (P0 P1 : Bytes → Type 0)
    (exact0 : (a b : Bytes) → P0 a → P0 b → order0 a b ≡ Equal → a ≡ b) (exact1 : (a b : Bytes) → P1 a → P1 b → order1 a b ≡ Equal → a ≡ b) where
  pub same_found : (m n : Rows) → IsWell order0 order1 m → IsWell order0 order1 n → AllByRecursion P0 (firsts m) → AllByRecursion P0 (firsts n) →
      AllByRecursion P1 (seconds m) → AllByRecursion P1 (seconds n) →
      ((k0 k1 : Bytes) → P0 k0 → P1 k1 → find order0 order1 m k0 k1 ≡ find order0 order1 n k0 k1) → m ≡ n
  same_found m n well_m well_n firsts_m firsts_n seconds_m seconds_n f =
      let some = λ (z : Rows) (k0 : Bytes) (well : IsWell order0 order1 z).
      look_up_holds order0 (λ r. 0 < length r) z k0 (values_all _ (λ r h. h.0) z well.1) in
      let keys = λ (z : Rows) (k0 : Bytes) (all : AllByRecursion P1 (seconds z)). row_holds order0 _ z k0 (rows_keys _ z all) tt in
      maps_alike total0 P0 exact0 m n well_m.0 well_n.0 firsts_m firsts_n
      (λ k0 v. same_row (look_up order0 m k0) (look_up order0 n k0) (some m k0 well_m) (some n k0 well_n)
      (maps_alike total1 P1 exact1 _ _ (row_ordered total0 total1 m k0 well_m) (row_ordered total0 total1 n k0 well_n)
      (keys m k0 seconds_m) (keys n k0 seconds_n) (λ k1 w. f k0 k1 v w)))

pub found_alike : FoundAlike
found_alike order0 order1 fault0 fault1 total0 total1 exact0 exact1 m n well_m well_n keys_m keys_n =
    same_found total0 total1 (IsElementOf fault0) (IsElementOf fault1) (λ a b h k. exact0 a b h.bytes k.bytes h.valid k.valid)
    (λ a b h k. exact1 a b h.bytes k.bytes h.valid k.valid) m n well_m well_n keys_m.firsts keys_n.firsts keys_m.seconds keys_n.seconds

pub found_in_row : FoundInRow
found_in_row order0 order1 m k0 k1 = grind arith

-- ---- puts, one after another

-- a pair of keys has the last value that was given, or what it had
last_or : {order0 order1 : Order} → IsTotalOrder order0 → IsTotalOrder order1 → (m : Rows) (ts : List Triple) (k0 k1 : Bytes) →
    find order0 order1 (put_all order0 order1 m ts) k0 k1 ≡ option_or (last_given order0 order1 ts k0 k1) (find order0 order1 m k0 k1)
last_or total0 total1 m [] k0 k1 = refl
last_or total0 total1 m (t ∷ ts) k0 k1 =
    rw (last_or total0 total1 (put _ _ m t.0 t.1 t.2) ts k0 k1, find-put total0 total1 m t.0 t.1 k0 k1 t.2) (grind (arith, nat_tests))

pub keeps_last : KeepsLast
keeps_last order0 order1 total0 total1 ts k0 k1 = rw (last_or total0 total1 [] ts k0 k1) (grind arith)
