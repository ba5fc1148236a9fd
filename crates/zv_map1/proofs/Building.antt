-- Maps that are made by insertions, one after another, and the laws of maps.
use Rattle.zv_map1.proofs.Common.{Order, IsTotalOrder, Bytes, Pairs, look_up, ◌≡◌, ◌++◌, [], ◌∷◌, ap, Option, cond, is_eq, Some, insert_entry}
use Rattle.zv_map1.proofs.Common.{look_up-insert_entry, eq_by_cmp_equiv, refl, insert_all, reverse, reverse-append, append_assoc, ◌∙◌, IsMap}
use Rattle.zv_map1.proofs.Common.{IsMap-insert_entry, InsertIsFound, tied_itself}

module _ {order : Order} (total : IsTotalOrder order) where
  module _ (k : Bytes) where
    -- what is looked at last decides where the others have no value
    found_after : (ps m n : Pairs) → look_up order m k ≡ look_up order n k → look_up order (ps ++ m) k ≡ look_up order (ps ++ n) k
    found_after [] m n e = e
    found_after (p ∷ ps) m n e = ap (λ (o : Option Bytes). cond (is_eq (order k p.0)) (Some p.1) o) (found_after ps m n e)

    -- an insertion is found as if it stood in front
    in_front : (m : Pairs) (p : Bytes × Bytes) → look_up order (insert_entry order m p.0 p.1) k ≡ look_up order (p ∷ m) k
    in_front m p = rw (look_up-insert_entry total m p.0 k p.1, (eq_by_cmp_equiv total).symm p.0 k) refl

    -- of pairs that are inserted one after another, the last for a key is found
    pub last_found : (ps m : Pairs) → look_up order (insert_all order m ps) k ≡ look_up order (reverse ps ++ m) k
    last_found [] m = refl
    last_found (p ∷ ps) m =
        rw (reverse-append (p ∷ []) ps, append_assoc)
        (last_found ps (insert_entry order m p.0 p.1) ∙ found_after (reverse ps) (insert_entry order m p.0 p.1) (p ∷ m) (in_front m p))

  pub all_is_map_from : (ps m : Pairs) → IsMap order m → IsMap order (insert_all order m ps)
  all_is_map_from [] m up = up
  all_is_map_from (p ∷ ps) m up = all_is_map_from ps (insert_entry order m p.0 p.1) (IsMap-insert_entry total m p.0 p.1 up)

pub insert_is_found : InsertIsFound
insert_is_found order total m k v = rw (look_up-insert_entry total m k k v, tied_itself total k) refl
