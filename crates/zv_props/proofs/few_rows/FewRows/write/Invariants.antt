use Rattle.zv_props.proofs.Common.{◌≡◌, ◌*◌, length, take, AllByRecursion, table_bytes}
use Rattle.zv_props.specs.Stored.{IsStored}
use Rattle.zv_props.proofs.few_rows.FewRows.write.Given as goal

abbrev pub invariant-loop-index : goal.invariant-loop-index
invariant-loop-index l = record {
  long : length l.out ≡ length l.rows * 10;
  written : take (l.index * 10) l.out ≡ table_bytes (take l.index l.rows);
  stored : AllByRecursion IsStored (take l.index l.rows);
}
