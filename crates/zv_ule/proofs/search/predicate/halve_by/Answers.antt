use Rattle.zv_ule.proofs.Common.{◌≡◌, ◌+◌, [], ◌∷◌, ◌++◌, refl, sym, ◌∙◌, arith, Equal, nth}
use Rattle.std.specs.Cmp.{Equal-is}
use Rattle.std.specs.Fn.{CalledAt}
use Rattle.std.proofs.lemmas.Fn.{FoldsTo-push, called_at}
use borrow.Author.Rules.{of_calls}
use Rattle.zv_ule.proofs.Halving.{answered, answer_there, answers_in, narrowed_by}
use Rattle.zv_ule.proofs.search.predicate.halve_by.Goals as goal

pub loop-window-preserved : goal.loop-window-preserved
loop-window-preserved g c =
    let xs = g.C.IndexedList.list c.args.list.now in
    let start = c.args.range.start in
    let end = c.args.range.end in
    let low = c.loop-window.window.low in
    let size = c.loop-window.window.size in
    let old = c.loop-window.invariant in
    let left = c.left_by-window.ensures in
    let m = c.middle-middle.result in
    let same : c.as_bytes.result.now ≡ nth xs (start + m) = c.as_bytes.ensures.same ∙ c.element_at-element.ensures in
    record {
      callable = search of_calls;
      within = omega (arith, left.within);
      asked = (
        old.asked.0 ++ (c.as_bytes.result.now, c.predicate-answer.result) ∷ [],
        FoldsTo-push (λ f call f'. CalledAt g.P.FnMut f call.0 call.1 f') _ _ _ _ _ old.asked.1 (called_at g.P.FnMut c.predicate-answer.ensures refl),
      );
      narrowed = λ f computes.
          let before = old.narrowed f computes in
          let now = answered f before.0 c.predicate-answer.ensures in
          let is = answer_there f xs start end m (omega (arith, c.middle-middle.ensures)) c.requires.inside same now.1 in (
            now.0,
            λ up. narrowed_by _ low size m _ _ _ (sym c.is_eq.ensures ∙ c.if-is_eq.false) (omega arith)
                (omega (arith, answers_in f xs start end c.requires.order c.requires.inside)) c.middle-middle.ensures left.after left.end left.before left.start
                up (before.1 up) is,
          );
    }

pub returns-then-is_eq-clause-found : goal.returns-then-is_eq-clause-found
returns-then-is_eq-clause-found g c f computes =
    let xs = g.C.IndexedList.list c.args.list.now in
    let start = c.args.range.start in
    let end = c.args.range.end in
    let now = answered f (c.loop-window.invariant.narrowed f computes).0 c.predicate-answer.ensures in
    let is : c.predicate-answer.result ≡ Equal = (Equal-is _).0 (sym c.is_eq.ensures ∙ c.if-is_eq.true) in
    let m = c.middle-middle.result in
    let same : c.as_bytes.result.now ≡ nth xs (start + m) = c.as_bytes.ensures.same ∙ c.element_at-element.ensures in
    record {
      within = omega (arith, answers_in f xs start end c.requires.order c.requires.inside, c.middle-middle.ensures);
      equal = answer_there f xs start end m (omega (arith, c.middle-middle.ensures)) c.requires.inside same (sym is ∙ now.1);
    }
