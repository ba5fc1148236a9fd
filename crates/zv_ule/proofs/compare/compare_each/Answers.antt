use Rattle.zv_ule.proofs.Common.{ℕ, List, length, drop, arith, length-drop, sym, ◌∙◌}
use Rattle.zv_ule.proofs.Fronts.{ends}
use Rattle.zv_ule.proofs.compare.compare_each.Goals as goal

pub returns : goal.returns
returns c =
    let a : List ℕ = c.args.a.now in
    let b : List ℕ = c.args.b.now in
    record {
      order = c.cmp.ensures ∙
          (sym (ends (drop c.loop-i.i a) (drop c.loop-i.i b) (length a) (length b) c.loop-i.i (omega (arith, length-drop c.loop-i.i a))
          (omega (arith, length-drop c.loop-i.i b)) (omega arith)) ∙ c.loop-i.invariant);
    }
