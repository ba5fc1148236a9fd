use Rattle.zv_owned.proofs.Common.{◌∙◌, arith, refl, rules}
use Rattle.zv_owned.proofs.Shifts.{one_shifted}
use Rattle.zv_owned.proofs.writes.shift_fields.Goals as goal

pub loop-place-preserved : goal.loop-place-preserved
loop-place-preserved g c =
    let f = g.F.VarZeroVecFormat in
    let before = c.loop-place.invariant in
    record {
      at = search rules;
      done = λ ss is count can. one_shifted ss c.W-width.ensures before.at (c.MAX-most.ensures ∙ f.max_is) f.field_small
          (omega (arith, count, c.loop-place-test.true)) can c.requires.small (omega arith) (before.done ss is count can)
          c.read_start.ensures.value refl c.write_start.ensures;
    }
