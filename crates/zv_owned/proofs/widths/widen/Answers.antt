use Rattle.zv_owned.proofs.Common.{arith}
use Rattle.zv_owned.proofs.Rewritten.{listed, widened}
use Rattle.zv_var.specs.Format.{elements}
use Rattle.zv_owned.proofs.widths.widen.Goals as goal

pub returns-clause-done : goal.returns-clause-done
returns-clause-done g c =
    let b = c.args.shelf.now.bytes in
    let e = rw c.bytes.ensures at c.count_of-count.ensures.each in
    widened (elements 2 b) (rw c.bytes.ensures at c.count_of-count.ensures.count) (omega arith)
    (listed 2 g.T.ZvKind.fault b (omega arith) e c.requires.spells) c.len-end.ensures c.in_ok-fit_gaps.ensures.ok c.widen_fields.ensures.fields
