use Rattle.zv_layers.proofs.Common.{◌∙◌, ◌∷◌, [], ap, arith, later, sym, with_pairs, ⊤}
use Rattle.zv_layers.proofs.Gathered.{no_pairs, pair_added}
use Rattle.zv_layers.proofs.Laid.{none_left, took}
use Rattle.zv_map2d_laws.proofs.Laid.{anything}
use Rattle.zv_layers.proofs.overlay.add_both.Goals as goal

pub loop-next-smaller : goal.loop-next-smaller
loop-next-smaller g c =
    let at = c.loop-next.invariant in (took later (λ p. ⊤) c.in-Some.ensures.next (at.base, anything _) (at.over, anything _)).fewer

pub loop-next-preserved : goal.loop-next-preserved
loop-next-preserved g c =
    let at = c.loop-next.invariant in
    let t = took later (λ p. ⊤) c.in-Some.ensures.next (at.base, anything _) (at.over, anything _) in record {
      base = t.base.0;
      over = t.over.0;
      rest = pair_added c.loop-next.columns (c.in_ok-add.ensures ∙ ap (λ p. with_pairs c.loop-next.columns (p ∷ [])) c.upper_of.ensures) t ∙ at.rest;
      counted = omega (arith, at.counted, c.in-Some.ensures.counted);
      paid = omega (arith, at.paid, c.in-Some.ensures.steps);
    }

pub returns-clause-pairs : goal.returns-clause-pairs
returns-clause-pairs g c =
    let at = c.loop-next.invariant in
    let none = none_left later (λ p. ⊤) _ c.in_default.ensures.next (at.base, anything _) (at.over, anything _) in
    sym (no_pairs c.loop-next.columns) ∙ ap (with_pairs c.loop-next.columns) (sym none) ∙ at.rest
