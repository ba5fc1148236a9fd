use Rattle.zv_owned.proofs.Common.{arith, refl, rules, ◌≡◌}
use Rattle.zv_owned.proofs.FieldWidths.{narrow_all, one_widened}
use Rattle.zv_owned.proofs.fields.widen_fields.Goals as goal

pub loop-left-init : goal.loop-left-init
loop-left-init c = record { within = omega arith; long = refl; widths = λ ss g t count small gap is. narrow_all ss g t count gap is }

pub loop-left-preserved : goal.loop-left-preserved
loop-left-preserved c =
    let before = c.loop-left.invariant in
    record {
      within = omega (arith, before.within);
      long = search rules;
      widths = λ ss g t count small gap is. one_widened ss t (omega (arith, c.loop-left-test.true)) refl refl
          (omega (arith, count, before.within, c.loop-left-test.true)) (omega (arith, before.within, before.long)) small
          (before.widths ss g t count small gap is) c.read_start-number.ensures.value c.write_start.ensures;
    }

pub returns-clause-fields : goal.returns-clause-fields
returns-clause-fields c = λ ss g t count small gap is.
    let none : c.loop-left.left ≡ 0 = omega arith in
    rw none at (c.loop-left.invariant.widths ss g t count small gap is).back
