use Rattle.std.proofs.Common.{[], ◌∷◌, ◌++◌, sym, ◌∙◌, arith}
use Rattle.std.specs.Cmp.{Equal-is}
use Rattle.std.proofs.lemmas.List.{length-map}
use borrow.Author.Rules.{of_calls}
use Rattle.zv_ule.proofs.Halving.{narrowed_by}
use Rattle.zv_fixed.specs.Views.{values_in}
use Rattle.zv_fixed.proofs.Calls.{asked_more, answered_at}
use Rattle.zv_fixed.proofs.slice.ZeroSlice.binary_search_by.Goals as goal

pub loop-window-preserved : goal.loop-window-preserved
loop-window-preserved g c =
    let old = c.loop-window.invariant in
    let left = c.left_by-window.ensures in
    record {
      callable = search of_calls;
      within = omega (arith, left.within);
      asked = (old.asked.0 ++ (c.at.result, c.predicate-answer.result) ∷ [], asked_more _ _ _ _ _ _ old.asked.1 c.predicate-answer.ensures);
      narrowed = λ f computes.
          let before = old.narrowed f computes in
          let now = answered_at f (values_in c.args.self) _ before.0 c.at.ensures c.predicate-answer.ensures in (
            now.0,
            λ up. narrowed_by _ _ _ _ _ _ _ (sym c.is_eq.ensures ∙ c.if-is_eq.false) (omega arith) (rw length-map (omega arith))
                c.middle-middle.ensures left.after left.end left.before left.start up (before.1 up) now.1,
          );
    }

pub returns-then-is_eq-clause-equal : goal.returns-then-is_eq-clause-equal
returns-then-is_eq-clause-equal g c = record {
  value = c.at.result;
  there = c.at.ensures;
  calls = c.loop-window.invariant.asked.0;
  before = c.loop-window.predicate;
  after = c.predicate-answer.new.self;
  asked = c.loop-window.invariant.asked.1;
  equal = rw (← (Equal-is _).0 (sym c.is_eq.ensures ∙ c.if-is_eq.true)) c.predicate-answer.ensures;
}

pub returns-then-is_eq-clause-found : goal.returns-then-is_eq-clause-found
returns-then-is_eq-clause-found g c f computes = record {
  within = rw length-map (omega (arith, c.middle-middle.ensures));
  equal = (answered_at f (values_in c.args.self) _ (c.loop-window.invariant.narrowed f computes).0 c.at.ensures c.predicate-answer.ensures).1
      ∙ (Equal-is _).0 (sym c.is_eq.ensures ∙ c.if-is_eq.true);
}
