use Rattle.zv_owned.proofs.Common.{arith, refl, rules, ◌≡◌}
use Rattle.zv_owned.proofs.FieldWidths.{narrowed, one_narrowed, wide_all}
use Rattle.zv_owned.proofs.fields.narrow_fields.Goals as goal

pub loop-done-init : goal.loop-done-init
loop-done-init c = record { within = omega arith; long = refl; widths = λ ss t count small is. wide_all ss t is }

pub loop-done-preserved : goal.loop-done-preserved
loop-done-preserved c =
    let before = c.loop-done.invariant in
    record {
      within = omega (arith, c.loop-done-test.true);
      long = search rules;
      widths = λ ss t count small is. one_narrowed ss t refl refl (omega (arith, count, c.loop-done-test.true))
          (omega (arith, before.long, c.loop-done-test.true)) small (before.widths ss t count small is)
          c.read_start-number.ensures.value refl c.write_start.ensures;
    }

pub returns-clause-fields : goal.returns-clause-fields
returns-clause-fields c = λ ss t count small is.
    let all : c.loop-done.done ≡ c.args.count = omega (arith, c.loop-done.invariant.within, c.loop-done-test.false) in
    narrowed ss t count (omega (arith, c.loop-done.invariant.long)) (rw all at (c.loop-done.invariant.widths ss t count small is))
