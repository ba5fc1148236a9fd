use Rattle.zv_props.proofs.Common.{rows_of}
use Rattle.zv_props.proofs.Proper.{row_goes_on}
use Rattle.zv_props.proofs.table.check_rows.Goals as goal

pub loop-index-preserved : goal.loop-index-preserved
loop-index-preserved c =
    row_goes_on _ (rows_of c.args.rows.bytes.now) _ _ _ c.at-row.result c.loop-index.invariant c.at-row.ensures c.in_ok-check_row.ensures
