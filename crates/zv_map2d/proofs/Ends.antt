-- The end of a map, and maps that are made of pairs.
use Rattle.zv_map2d.proofs.Common.{◌≡◌, ◌⊎◌, ℕ, suc, ◌+◌, ◌-◌, ◌<◌, ◌&&◌, true, false, List, [], ◌∷◌, length, drop, get_or, Option, Some, None, Ok, Err, Result}
use Rattle.zv_map2d.proofs.Common.{IfErr, is_some, is_none, inl, inr, refl, sym, ◌∙◌, ap, subst, arith, drop_more, length-map, IsTotalOrder, IsStrictlySortedBy}
use Rattle.zv_map2d.proofs.Common.{Ordering, Equal, Greater, placed, IsAt, keys_of, IsGap, answer_at, compared, Triple, first_refusal, is_above_key, put_all}
use Rattle.zv_map2d.proofs.Common.{written, Rule, fits, Bytes, Order, nth, IsPlace, Rows, IsWell, find, firsts, put, row_at, InRow, NewRow, IfSome}
use Rattle.std.specs.Ordering.{ordering_index, ordering_reverse}
use Rattle.zv_ule.proofs.Ascents.{compared_at, sorted_rises}
use Rattle.zv_map2d.specs.Refusals.{IsRefusal, is_full}
use Rattle.zv_map2d.specs.declared.error.Map2dError.{Map2dError}
use Rattle.zv_map2d.specs.declared.error.Map2dError.TheVariants.{TooLarge, TooMany, Memory}
use Rattle.zv_map2d.specs.declared.place.Place.{Place}
use Rattle.zv_map2d.proofs.Flat.{row_well}

module _ {order : Order} (total : IsTotalOrder order) (k : Bytes) (ks : List Bytes) (up : IsStrictlySortedBy order ks) (i : ℕ) (last : suc i ≡ length ks) where
  last_answer : (r : Ordering) → order k (nth ks i) ≡ r → answer_at (compared order ks k) i ≡ ordering_reverse r
  last_answer r e = rw (compared_at order k ks i (omega arith), total.antisymm (nth ks i) k, e) refl

  -- a key above the last has its gap at the end
  pub gap_at_end : order k (nth ks i) ≡ Greater → IsGap (compared order ks k) (length ks)
  gap_at_end e =
      let many = length-map ks (λ x. order x k) in record {
        within = omega (arith, many);
        less = λ j h. grind (arith, ap ordering_index (last_answer Greater e), sorted_rises total k ks up j i (omega arith) (omega (arith, many)));
        greater = λ j h w. absurd (omega (arith, many));
      }

  -- and one that is the last stands there
  pub at_end : order k (nth ks i) ≡ Equal → IsAt (compared order ks k) i
  at_end e = placed total k ks up (Ok i) (record { within = omega (arith, length-map ks (λ x. order x k)); equal = last_answer Equal e })

module _ {order0 order1 : Order} (total0 : IsTotalOrder order0) (total1 : IsTotalOrder order1) (m : Rows) (k0 k1 : Bytes) (well : IsWell order0 order1 m)
    (i : ℕ) (last : suc i ≡ length m) where
  last_first : suc i ≡ length (firsts m)
  last_first = last ∙ sym (length-map m (λ q. q.0))

  -- a first key above the last has its row after all
  pub new_row_at_end : (n : ℕ) → n ≡ length m → order0 k0 (nth (firsts m) i) ≡ Greater → IsPlace order0 order1 m k0 k1 (NewRow n)
  new_row_at_end n is e = rw (is, ← length-map m (λ q. q.0)) (gap_at_end total0 k0 (firsts m) well.0 i last_first e)

  -- a second key above the last of the last row has its place there
  pub some_at_end : (o : Option Place) → order0 k0 (nth (firsts m) i) ≡ Equal → is_some o ≡ is_above_key order1 (keys_of (row_at m i)) k1 →
      IfSome o (λ p. p ≡ InRow i (length (row_at m i))) → IfSome o (IsPlace order0 order1 m k0 k1)
  some_at_end None e above is = tt
  some_at_end (Some p) e above is =
      let row = row_well order1 m i well.1 (omega (arith, last)) in
      let ks = keys_of (row_at m i) in
      let many : length ks ≡ length (row_at m i) = length-map (row_at m i) (λ q. q.0) in
      let end : suc (length ks - 1) ≡ length ks = omega (arith, row.0, many) in rw is (
        at_end total0 k0 (firsts m) well.0 i last_first e,
        subst (IsGap (compared order1 ks k1)) many (gap_at_end total1 k1 ks row.1 (length ks - 1) end (grind (arith, above))),
      )

-- ---- triples that are left to be put

-- what is left leads from the map to what all triples lead to
pub record LeadsTo (rule : Rule) (order0 order1 : Order) (all left : List Triple) (m : Rows) : Type 0 where
  pub rows : put_all order0 order1 m left ≡ put_all order0 order1 [] all
  pub refusals : first_refusal rule order0 order1 m left ≡ first_refusal rule order0 order1 [] all

module _ {A B C : Type 0} (key0 : A → Bytes) (key1 : B → Bytes) (value : C → Bytes) {rule : Rule} {order0 order1 : Order} {all : List Triple} {m : Rows}
    (ts : List (A × B × C)) (i : ℕ) (t : A × B × C) (h : i < length ts) (e : t ≡ get_or ts i t)
    (left : LeadsTo rule order0 order1 all (written key0 key1 value (drop i ts)) m) where
  abbrev rest : List Triple
  rest = written key0 key1 value (drop (i + 1) ts)

  -- one is next, before the others
  next : LeadsTo rule order0 order1 all ((key0 t.0, key1 t.1, value t.2) ∷ rest) m
  next = subst (λ z. LeadsTo rule order0 order1 all z m) (ap (written key0 key1 value) (drop_more ts i t h)
      ∙ ap (λ (q : A × B × C). (key0 q.0, key1 q.1, value q.2) ∷ rest) (sym e)) left

  -- a put that is taken leaves the others
  pub leads_on : {n : Rows} → n ≡ put order0 order1 m (key0 t.0) (key1 t.1) (value t.2) → fits rule order0 order1 m (key0 t.0) (key1 t.1) (value t.2) ≡ true →
      (is_none (find order0 order1 m (key0 t.0) (key1 t.1)) && is_full m) ≡ false → LeadsTo rule order0 order1 all rest n
  leads_on same takes free = rw same (record { rows = next.rows; refusals = rw (takes, free) at next.refusals })

  -- and one that is refused is the first
  pub refused_first : {X : Type 0} (result : Result X Map2dError) (error : Map2dError) → result ≡ Err error →
      IsRefusal (fits rule order0 order1 m (key0 t.0) (key1 t.1) (value t.2)) (is_none (find order0 order1 m (key0 t.0) (key1 t.1)) && is_full m) error →
      IfErr result (λ e. (e ≡ Memory) ⊎ (first_refusal rule order0 order1 [] all ≡ Some e))
  refused_first result TooLarge is r = rw is (inr (sym next.refusals ∙ rw r refl))
  refused_first result TooMany is r = rw is (inr (sym next.refusals ∙ rw (r.0, r.1) refl))
  refused_first result Memory is r = rw is (inl refl)
