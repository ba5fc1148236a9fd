use Rattle.zv_var.proofs.Common.{◌≡◌, ◌+◌, ◌-◌, arith, true, subst, sym, AllByRecursion, and_parts}
use Rattle.zv_var.proofs.Turns.{mul_step}
use Rattle.zv_var.proofs.validation.are_boundaries.Goals as goal

pub loop-i-preserved : goal.loop-i-preserved
loop-i-preserved g c =
    let e : c.args.starts - c.loop-i._i ≡ c.args.starts - (c.loop-i._i + 1) + 1 = omega arith in
    record {
      left = omega (arith, mul_step g.F.VarZeroVecFormat.W _ _ e, c.split_start-at.ensures.rest);
      same = λ both later.
          let h = and_parts c.loop-i.good c.is_boundary-good.result both in
          c.loop-i.invariant.same h.0 (subst (AllByRecursion (λ a. g.T.ZvKind.boundary c.args.body.now a ≡ true)) (sym (c.split_start-at.ensures.fields _ _ e))
          (c.is_boundary-good.ensures h.1, later));
    }
