use Rattle.std.proofs.Common.{◌≡◌, map, drop}
use Rattle.serde_json.specs.View.{view}
use Rattle.zv_json.specs.Arrays.{all_written}
use Rattle.zv_json.specs.Arrays.{then_written}
use Rattle.zv_json.proofs.arrays.array_of.Given as goal

abbrev pub invariant-loop-value : goal.invariant-loop-value
invariant-loop-value g l =
    then_written (map view l.items.items) (all_written (map g.T.JsonValue.value_data (drop l.value-index l.values)))
    ≡ all_written (map g.T.JsonValue.value_data l.values)
