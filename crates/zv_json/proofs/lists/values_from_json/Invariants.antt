use Rattle.std.proofs.Common.{◌≡◌, map, drop}
use Rattle.serde_json.specs.View.{view}
use Rattle.zv_json.specs.Arrays.{read_each}
use Rattle.zv_json.specs.Arrays.{then_read}
use Rattle.zv_json.proofs.lists.values_from_json.Given as goal

abbrev pub invariant-loop-item : goal.invariant-loop-item
invariant-loop-item g l =
    then_read l.values.items (read_each g.T.JsonValue.value_in (map view (drop l.item-index l.items))) ≡ read_each g.T.JsonValue.value_in (map view l.items)
