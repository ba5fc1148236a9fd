use Rattle.zv_var.proofs.Common.{refl, ◌≡◌, ℕ, ◌+◌, ◌<◌, Bool, ◌&&◌, List, [], ◌∷◌, length, drop, get_or, Option, Some, None, is_some, true, ap, sym, ◌∙◌}
use Rattle.zv_var.proofs.Common.{drop_more, pointwise, is_same, left_of}
use Rattle.std.proofs.Common.{false, MatchOption, not}
use Rattle.std.proofs.lemmas.List.{drop_all}
use Rattle.std.specs.Ordering.{is_eq}
use Rattle.zv_ule.specs.Views.{element_of}
use Rattle.zv_var.proofs.slice.VarZeroSlice.same_slice.Goals.{After-is_eq}
use Rattle.zv_var.proofs.slice.VarZeroSlice.same_slice.Goals as goal

module _ {A B : Type 0} (E : A → B → Bool) where
  -- the first element x of a list, and y at a place of another
  step : (xs rest : List A) (ys : List B) (i : ℕ) (x : A) (y : B) (same : Bool) → xs ≡ x ∷ rest → i < length ys → y ≡ get_or ys i y → same ≡ E x y →
      pointwise E xs (drop i ys) ≡ (same && pointwise E rest (drop (i + 1) ys))
  step xs rest ys i x y same first inside at told = rw (first, told, drop_more ys i y inside, ← at) refl

  -- no element is left
  ends : {X : Type 0} (view : X → A) (o : Option X) (xs rest : List A) → MatchOption o ((xs ≡ []) × (rest ≡ [])) (λ x. xs ≡ view x ∷ rest) →
      (b : Bool) → not b ≡ is_some o → b ≡ pointwise E xs []
  ends view None xs rest h true e = rw h.0 refl
  ends view None xs rest h false e = absurd cc
  ends view (Some x) xs rest h true e = absurd cc
  ends view (Some x) xs rest h false e = rw h refl

next : (g : _) (c : After-is_eq g) → pointwise (is_same g.T.ZvOrd.cmp g.Q.ZvArg.bytes)
    (left_of c.loop-value.elements) (drop c.loop-value.value-index c.args.other.now) ≡
    (c.is_eq.result && pointwise (is_same g.T.ZvOrd.cmp g.Q.ZvArg.bytes) (left_of c.next.new.self) (drop (c.loop-value.value-index + 1) c.args.other.now))
next g c = step (is_same g.T.ZvOrd.cmp g.Q.ZvArg.bytes) _ _ _ c.loop-value.value-index _ c.value-item.result _
    c.in-Some.ensures.steps c.loop-value-test.true c.value-item.is (c.is_eq.ensures ∙ ap is_eq c.compare_with_element.ensures)

pub returns-then-not-is_eq : goal.returns-then-not-is_eq
returns-then-not-is_eq g c =
    sym (rw c.if-not-is_eq.true at (next g (goal.at.returns-then-not-is_eq g c).After-is_eq)) ∙ c.loop-value.invariant.same

pub loop-value-preserved : goal.loop-value-preserved
loop-value-preserved g c = record {
  can_next = tt;
  is_finite = tt;
  same = sym (rw c.if-not-is_eq.false at (next g (goal.at.loop-value-preserved g c).After-is_eq)) ∙ c.loop-value.invariant.same;
}

pub returns : goal.returns
returns g c =
    ends (is_same g.T.ZvOrd.cmp g.Q.ZvArg.bytes) element_of c.next-2.result _ _ c.next-2.ensures.steps c.is_none.result (sym c.is_none.ensures)
    ∙ (rw (drop_all c.loop-value.value-index c.args.other.now c.loop-value-test.false) at c.loop-value.invariant.same)
