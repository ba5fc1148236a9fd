use Rattle.zv_var.proofs.Common.{◌≡◌, ℕ, ◌+◌, ◌-◌, ◌∷◌, List, Bool, ◌&&◌, nat_le, arith, ◌∙◌, fields, in_order}
use Rattle.std.proofs.Math.Bool.{and_assoc}
use Rattle.zv_var.proofs.Turns.{mul_step}
use Rattle.zv_var.proofs.validation.are_in_order.Goals as goal

order_more : (good : Bool) (s t end : ℕ) (es later : List ℕ) (whole : Bool) → es ≡ t ∷ later → (good && in_order s es end) ≡ whole →
    ((good && nat_le s t) && in_order t later end) ≡ whole
order_more good s t end es later whole next same = and_assoc good (nat_le s t) (in_order t later end) ∙ (rw next at same)

pub loop-i-preserved : goal.loop-i-preserved
loop-i-preserved g c =
    let e : c.args.starts - c.loop-i._i ≡ c.args.starts - (c.loop-i._i + 1) + 1 = omega arith in
    let whole = in_order 0 (fields g.F.VarZeroVecFormat.W c.args.starts c.args.indices.now) c.args.end in
    record {
      left = omega (arith, mul_step g.F.VarZeroVecFormat.W _ _ e, c.split_start-at.ensures.rest);
      same = order_more c.loop-i.good c.loop-i.start c.split_start-at.result.0 c.args.end _ _ whole
          (c.split_start-at.ensures.fields _ _ e) c.loop-i.invariant.same;
    }
