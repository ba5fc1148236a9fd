use Rattle.std.proofs.Common.{◌≡◌, map, drop}
use Rattle.serde_json.specs.View.{view}
use Rattle.zv_json.specs.Arrays.{read_each}
use Rattle.zv_json.specs.Arrays.{then_read}
use Rattle.zv_json.proofs.nested.elements_from_json.Given as goal

abbrev pub invariant-loop-item : goal.invariant-loop-item
invariant-loop-item g l =
    then_read l.elements.items (read_each g.T.JsonKind.of_data (map view (drop l.item-index l.items))) ≡ read_each g.T.JsonKind.of_data (map view l.items)
