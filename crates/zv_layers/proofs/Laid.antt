-- A walk over entries that are laid over others.
use Rattle.zv_layers.proofs.Common.{◌+◌, ◌<◌, ◌∙◌, ◌∷◌, ◌≡◌, ◌≤◌, AllByRecursion, Bytes, Equal, Greater, HoldsOf, IsMap, Less, List, MatchOption, Next, None}
use Rattle.zv_layers.proofs.Common.{Option, Ordering, Some, [], ap, arith, by_bytes, entry_of, exact_bytes, joined, lengths, look_up, next_of}
use Rattle.zv_layers.proofs.Common.{refl, suc, sum_by, sum_by-cons, weight_of, zero, ℕ}
use Rattle.std.proofs.lemmas.Cmp.{nat_list_cmp_total as total}
use Rattle.std.proofs.lemmas.Map.{lookup-none}
use Rattle.std.proofs.lemmas.Map.Entries.{none_below_head}
use Rattle.std.proofs.lemmas.Map.Keys.{sorted_tail}
use Rattle.std.specs.BTreeMap.{is_at}
use Rattle.std.specs.Ordering.{ordering_reverse}
use Rattle.zv_layers.specs.Walks.{next_by, taken_by}
use Rattle.zv_layers.specs.declared.walk.Next.TheVariants.{Both, One}
use Rattle.zv_map.proofs.Places.{IsMap-insert_entry}
use Rattle.zv_map2d_laws.proofs.Laid.{past}
use Rattle.zv_map2d_laws.specs.Overlays.{laid}

-- ---- a step of a walk over entries, of each of which P holds

module _ {X : Type 0} (join : X → X → X) (P : Bytes × X → Type 0) where
  abbrev Ascend : List (Bytes × X) → Type 0
  Ascend es = IsMap by_bytes es × AllByRecursion P es

  -- it comes before all that comes of what is left, which ascends and weighs less by as much as was taken
  pub record Comes (lists : List (Bytes × X) × List (Bytes × X)) (next : Next (Bytes × X)) (left : List (Bytes × X) × List (Bytes × X)) : Type 0 where
    pub is : laid join lists.0 lists.1 ≡ entry_of join next ∷ laid join left.0 left.1
    pub holds : HoldsOf P next
    pub base : Ascend left.0
    pub over : Ascend left.1
    pub fewer : lengths left < lengths lists
    pub spent : (w : Bytes × X → ℕ) → weight_of w next + (sum_by w left.0 + sum_by w left.1) ≡ sum_by w lists.0 + sum_by w lists.1

  tail : (e : Bytes × X) (es : List (Bytes × X)) → Ascend (e ∷ es) → Ascend es
  tail e es up = (sorted_tail by_bytes _ _ up.0, up.1.1)

  from_base : (b : Bytes × X) (bs os : List (Bytes × X)) → Ascend (b ∷ bs) → Ascend os → laid join (b ∷ bs) os ≡ b ∷ laid join bs os →
      Comes (b ∷ bs, os) (One b) (bs, os)
  from_base b bs os ub uo same =
      record { is = same; holds = ub.1.0; base = tail b bs ub; over = uo; fewer = omega arith; spent = λ w. omega (arith, sum_by-cons w b bs) }

  from_over : (o : Bytes × X) (bs os : List (Bytes × X)) → Ascend bs → Ascend (o ∷ os) → laid join bs (o ∷ os) ≡ o ∷ laid join bs os →
      Comes (bs, o ∷ os) (One o) (bs, os)
  from_over o bs os ub uo same =
      record { is = same; holds = uo.1.0; base = ub; over = tail o os uo; fewer = omega arith; spent = λ w. omega (arith, sum_by-cons w o os) }

  walks : (bs os : List (Bytes × X)) → Ascend bs → Ascend os →
      MatchOption (next_by bs os).0 (laid join bs os ≡ []) (λ next. Comes (bs, os) next (next_by bs os).1)
  walks [] [] ub uo = refl
  walks (b ∷ bs) [] ub uo = from_base b bs [] ub uo refl
  walks [] (o ∷ os) ub uo = from_over o [] os ub uo (past join o [] os uo.0)
  walks (b ∷ bs) (o ∷ os) ub uo = by (by_bytes o.0 b.0) refl
    where
      by : (r : Ordering) → by_bytes o.0 b.0 ≡ r → let t = taken_by b bs o os r in
          MatchOption t.0 (laid join (b ∷ bs) (o ∷ os) ≡ []) (λ next. Comes (b ∷ bs, o ∷ os) next t.1)
      by Less e =
          let none : look_up by_bytes (b ∷ bs) o.0 ≡ None = lookup-none (is_at (by_bytes o.0)) (b ∷ bs) (none_below_head total o.0 b bs ub.0 e) in
          from_over o (b ∷ bs) os ub uo (rw (none, e) (past join o (b ∷ bs) os uo.0))
      by Equal e = let same : o.0 ≡ b.0 = exact_bytes o.0 b.0 e in record {
        is = rw e (rw (← same) (past join (o.0, join b.1 o.1) bs os uo.0));
        holds = (ub.1.0, uo.1.0);
        base = tail b bs ub;
        over = tail o os uo;
        fewer = omega arith;
        spent = λ w. omega (arith, sum_by-cons w b bs, sum_by-cons w o os);
      }
      by Greater e =
          let low : by_bytes b.0 o.0 ≡ Less = total.antisymm b.0 o.0 ∙ ap ordering_reverse e in
          from_base b bs (o ∷ os) ub uo (past join b bs (o ∷ os) (rw low at (IsMap-insert_entry total (o ∷ os) b.0 b.1 uo.0)))

  -- what a walk took of two lists, or that nothing is left of them
  pub took : {next : Next (Bytes × X)} {lists left : List (Bytes × X) × List (Bytes × X)} → (Some next, left) ≡ next_of lists → Ascend lists.0 →
      Ascend lists.1 → Comes lists next left
  took {lists = lists} same ub uo = rw (← same) at (walks lists.0 lists.1 ub uo)

  pub none_left : (lists : List (Bytes × X) × List (Bytes × X)) {left : List (Bytes × X) × List (Bytes × X)} → (None, left) ≡ next_of lists →
      Ascend lists.0 → Ascend lists.1 → laid join lists.0 lists.1 ≡ []
  none_left lists same ub uo = rw (← same) at (walks lists.0 lists.1 ub uo)

  -- ---- how much entries weigh, where two that are joined weigh no more than both

  module _ (w : Bytes × X → ℕ) (lighter : (b o : Bytes × X) → P b → P o → w (o.0, join b.1 o.1) ≤ w b + w o) where
    one_weight : (next : Next (Bytes × X)) → HoldsOf P next → w (entry_of join next) ≤ weight_of w next
    one_weight (One e) h = omega arith
    one_weight (Both b o) h = lighter b o h.0 h.1

    pub laid_weight : (n : ℕ) (bs os : List (Bytes × X)) → lengths (bs, os) < n → Ascend bs → Ascend os →
        sum_by w (laid join bs os) ≤ sum_by w bs + sum_by w os
    laid_weight zero bs os few ub uo = absurd (omega arith)
    laid_weight (suc n) bs os few ub uo = by (next_by bs os) (walks bs os ub uo) (laid_weight n)
      where
        by : (t : Option (Next (Bytes × X)) × (List (Bytes × X) × List (Bytes × X))) →
            MatchOption t.0 (laid join bs os ≡ []) (λ next. Comes (bs, os) next t.1) →
            ((cs ps : List (Bytes × X)) → lengths (cs, ps) < n → Ascend cs → Ascend ps → sum_by w (laid join cs ps) ≤ sum_by w cs + sum_by w ps) →
            sum_by w (laid join bs os) ≤ sum_by w bs + sum_by w os
        by (None, left) none rest = rw none (omega arith)
        by (Some next, left) c rest =
            let others = rest left.0 left.1 (omega (arith, c.fewer)) c.base c.over in
            let sum = sum_by-cons w (entry_of join next) (laid join left.0 left.1) in
            rw c.is (omega (arith, sum, others, one_weight next c.holds, c.spent w))
