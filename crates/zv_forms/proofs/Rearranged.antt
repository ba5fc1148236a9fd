-- Entries that are put into a map in another order.
use Rattle.std.proofs.Common.{◌≡◌, List, [], ◌∷◌, ◌++◌, refl, sym, ap, ◌∙◌}
use Rattle.std.specs.Cmp.{IsTotalOrder, alike_right}
use Rattle.std.specs.List.{AllByRecursion, fold}
use Rattle.std.specs.Ordering.{match_ordering, ordering_reverse}
use Rattle.std.specs.declared.cmp.Ordering.{Ordering}
use Rattle.std.specs.declared.cmp.Ordering.TheVariants.{Less, Equal, Greater}
use Rattle.zv_map.specs.Maps.{insert_entry}
use Rattle.zv_map1.specs.Views.{Bytes, Order}

-- keys, each with what it has
abbrev pub Entries : Type 0 → Type 0
Entries X = List (Bytes × X)

-- a map with entries put in, one after another
abbrev pub put_all : {X : Type 0} → Order → Entries X → Entries X → Entries X
put_all order m es = fold (λ z e. insert_entry order z e.0 e.1) m es

-- each of the keys is below k
abbrev pub AreBelow : {X : Type 0} → Order → Entries X → Bytes → Type 0
AreBelow order es k = AllByRecursion (λ e. order e.0 k ≡ Less) es

module _ {order : Order} (total : IsTotalOrder order) where
  pub above : (a b : Bytes) → order a b ≡ Less → order b a ≡ Greater
  above a b e = total.antisymm b a ∙ ap ordering_reverse e

  module _ {X : Type 0} where
    -- two insertions of different keys can change places
    commute : (m : Entries X) (a b : Bytes) (x y : X) → order a b ≡ Less →
        insert_entry order (insert_entry order m b y) a x ≡ insert_entry order (insert_entry order m a x) b y
    commute [] a b x y e = rw (e, above a b e) refl
    commute (p ∷ m) a b x y e = go (order b p.0) refl (commute m a b x y e)
      where
        greater : (r : Ordering) → order b p.0 ≡ Greater → order a p.0 ≡ r →
            insert_entry order (insert_entry order m b y) a x ≡ insert_entry order (insert_entry order m a x) b y →
            insert_entry order (p ∷ insert_entry order m b y) a x
            ≡ insert_entry order (match_ordering r ((a, x) ∷ p ∷ m) ((p.0, x) ∷ m) (p ∷ insert_entry order m a x)) b y
        greater Less h i rest = rw (h, i, above a b e) refl
        greater Equal h i rest = rw (h, i) refl
        greater Greater h i rest = rw (h, i) (ap (λ n. p ∷ n) rest)

        go : (r : Ordering) → order b p.0 ≡ r →
            insert_entry order (insert_entry order m b y) a x ≡ insert_entry order (insert_entry order m a x) b y →
            insert_entry order (match_ordering r ((b, y) ∷ p ∷ m) ((p.0, y) ∷ m) (p ∷ insert_entry order m b y)) a x
            ≡ insert_entry order (insert_entry order (p ∷ m) a x) b y
        go Less h rest = rw (e, total.trans a b p.0 e h, above a b e, h) refl
        go Equal h rest = rw (sym (alike_right total b p.0 a h) ∙ e, above a b e, h) refl
        go Greater h rest = greater (order a p.0) h refl rest

    -- an entry whose key is above those that follow can be put in last
    put_last : (m : Entries X) (k : Bytes) (x : X) (es : Entries X) → AreBelow order es k →
        put_all order (insert_entry order m k x) es ≡ insert_entry order (put_all order m es) k x
    put_last m k x [] h = refl
    put_last m k x (e ∷ es) h =
        ap (λ n. put_all order n es) (commute m e.0 k e.1 x h.0) ∙ put_last (insert_entry order m e.0 e.1) k x es h.1

    pub put_between : (m front : Entries X) (k : Bytes) (x : X) (back : Entries X) → AreBelow order back k →
        put_all order m (front ++ (k, x) ∷ back) ≡ insert_entry order (put_all order m (front ++ back)) k x
    put_between m [] k x back h = put_last m k x back h
    put_between m (e ∷ front) k x back h = put_between (insert_entry order m e.0 e.1) front k x back h

    -- a key above all goes to the end
    pub put_at_end : (m : Entries X) (k : Bytes) (x : X) → AreBelow order m k → insert_entry order m k x ≡ m ++ (k, x) ∷ []
    put_at_end [] k x h = refl
    put_at_end (e ∷ m) k x h = rw (above e.0 k h.0) (ap (λ n. e ∷ n) (put_at_end m k x h.1))
