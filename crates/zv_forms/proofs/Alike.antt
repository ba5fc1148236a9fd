-- Maps with the same keys, and what they have alike.
use Rattle.std.proofs.Common.{◌≡◌, [], ◌∷◌, Bool, true, false, Some, refl, ap, subst, unwrap_or, cond}
use Rattle.std.proofs.lemmas.Cmp.{tied_itself}
use Rattle.std.specs.Cmp.{IsTotalOrder}
use Rattle.std.specs.Ordering.{is_eq, match_ordering}
use Rattle.std.specs.declared.cmp.Ordering.{Ordering}
use Rattle.std.specs.declared.cmp.Ordering.TheVariants.{Less, Equal, Greater}
use Rattle.zv_map.specs.Maps.{insert_entry, look_up}
use Rattle.zv_map1.specs.Views.{Bytes, Order}
use Rattle.zv_forms.specs.Again.{SameKeys}
use Rattle.zv_forms.proofs.Rearranged.{Entries}

module _ {X : Type 0} (order : Order) (alike : X → X → Type 0) where
  pub insert_alike : (m n : Entries X) (k : Bytes) (x y : X) → SameKeys alike m n → alike x y →
      SameKeys alike (insert_entry order m k x) (insert_entry order n k y)
  insert_alike [] [] k x y h a = (refl, (a, tt))
  insert_alike [] (f ∷ n) k x y h a = absurd h
  insert_alike (e ∷ m) [] k x y h a = absurd h
  insert_alike (e ∷ m) (f ∷ n) k x y h a =
      subst (λ r. SameKeys alike (insert_entry order (e ∷ m) k x) (match_ordering r ((k, y) ∷ f ∷ n) ((f.0, y) ∷ n) (f ∷ insert_entry order n k y)))
      (ap (λ j. order k j) h.0) (go (order k e.0) (insert_alike m n k x y h.1.1 a))
    where
      go : (r : Ordering) → SameKeys alike (insert_entry order m k x) (insert_entry order n k y) →
          SameKeys alike (match_ordering r ((k, x) ∷ e ∷ m) ((e.0, x) ∷ m) (e ∷ insert_entry order m k x))
          (match_ordering r ((k, y) ∷ f ∷ n) ((f.0, y) ∷ n) (f ∷ insert_entry order n k y))
      go Less rest = (refl, (a, h))
      go Equal rest = (h.0, (a, h.1.1))
      go Greater rest = (h.0, (h.1.0, rest))

  -- what a key has, or else d
  pub found_or_alike : (d : X) → alike d d → (m n : Entries X) (k : Bytes) → SameKeys alike m n →
      alike (unwrap_or (look_up order m k) d) (unwrap_or (look_up order n k) d)
  found_or_alike d same [] [] k h = same
  found_or_alike d same [] (f ∷ n) k h = absurd h
  found_or_alike d same (e ∷ m) [] k h = absurd h
  found_or_alike d same (e ∷ m) (f ∷ n) k h = rw (← h.0) (go (is_eq (order k e.0)) (found_or_alike d same m n k h.1.1))
    where
      go : (b : Bool) → alike (unwrap_or (look_up order m k) d) (unwrap_or (look_up order n k) d) →
          alike (unwrap_or (cond b (Some e.1) (look_up order m k)) d) (unwrap_or (cond b (Some f.1) (look_up order n k)) d)
      go true rest = h.1.0
      go false rest = rest

-- of two values that are given to a key, the second stays
pub insert_twice : {order : Order} → IsTotalOrder order → {X : Type 0} (m : Entries X) (k : Bytes) (x y : X) →
    insert_entry order (insert_entry order m k x) k y ≡ insert_entry order m k y
insert_twice {order} total [] k x y = rw (tied_itself total k) refl
insert_twice {order} total {X} (e ∷ m) k x y = go (order k e.0) refl (insert_twice total m k x y)
  where
    go : (r : Ordering) → order k e.0 ≡ r → insert_entry order (insert_entry order m k x) k y ≡ insert_entry order m k y →
        insert_entry order (match_ordering r ((k, x) ∷ e ∷ m) ((e.0, x) ∷ m) (e ∷ insert_entry order m k x)) k y
        ≡ match_ordering r ((k, y) ∷ e ∷ m) ((e.0, y) ∷ m) (e ∷ insert_entry order m k y)
    go Less h rest = rw (tied_itself total k) refl
    go Equal h rest = rw h refl
    go Greater h rest = rw h (ap (λ n. e ∷ n) rest)
