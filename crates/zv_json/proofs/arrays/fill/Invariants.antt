use Rattle.std.proofs.Common.{◌≡◌, map, take, drop, length}
use Rattle.serde_json.specs.View.{view}
use Rattle.zv_json.specs.Arrays.{read_each}
use Rattle.zv_json.specs.Arrays.{then_read}
use Rattle.zv_json.proofs.arrays.fill.Given as goal

abbrev pub invariant-loop-index : goal.invariant-loop-index
invariant-loop-index g l = record {
  long : length l.out ≡ length l.items;
  same : then_read (take l.index l.out) (read_each g.T.JsonValue.value_in (map view (drop l.index l.items)))
      ≡ read_each g.T.JsonValue.value_in (map view l.items);
}
