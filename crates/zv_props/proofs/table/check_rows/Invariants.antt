use Rattle.zv_props.proofs.Common.{◌≡◌, drop, rows_of}
use Rattle.zv_props.specs.Faults.{rows_fault}
use Rattle.zv_props.proofs.table.check_rows.Given as goal

abbrev pub invariant-loop-index : goal.invariant-loop-index
invariant-loop-index l = rows_fault 0 0 0 (rows_of l.rows.bytes.now) ≡ rows_fault l.index l.start l.value (drop l.index (rows_of l.rows.bytes.now))
