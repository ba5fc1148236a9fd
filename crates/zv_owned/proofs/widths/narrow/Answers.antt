use Rattle.zv_owned.proofs.Common.{arith}
use Rattle.zv_owned.proofs.Rewritten.{listed, must_be_ok, narrowed}
use Rattle.zv_var.specs.Format.{elements}
use Rattle.zv_owned.proofs.widths.narrow.Goals as goal

pub returns-clause-done : goal.returns-clause-done
returns-clause-done g c = λ yes.
    let b = c.args.shelf.now.bytes in
    let e = rw c.bytes.ensures at c.count_of-count.ensures.each in
    narrowed (elements 4 b) (rw c.bytes.ensures at c.count_of-count.ensures.count) (omega arith)
    (listed 4 g.T.ZvKind.fault b (omega arith) e c.requires.spells) (omega (arith, c.len.ensures, c.if-len-count-gt65535.false)) c.len-end.ensures
    c.narrow_fields.ensures.fields
    (must_be_ok c.fit_gaps.result c.fit_gaps.ensures.ok c.fit_gaps.ensures.succeeds (λ few. absurd (omega (arith, few))))
