use Rattle.std.proofs.Common.{◌≡◌, map}
use Rattle.serde_json.specs.View.{view}
use Rattle.zv_fixed.specs.Iters.{left_of}
use Rattle.zv_fixed.specs.Views.{values_in}
use Rattle.zv_json.specs.Arrays.{all_written}
use Rattle.zv_json.specs.Arrays.{then_written}
use Rattle.zv_json.proofs.lists.values_to_json.Given as goal

abbrev pub invariant-loop-value : goal.invariant-loop-value
invariant-loop-value g l = record {
  can_next : (goal.iterator-loop-value g).can_next l.value-iterator;
  is_finite : (goal.iterator-loop-value g).is_finite l.value-iterator;
  same : then_written (map view l.items.items) (all_written (map g.T.JsonValue.value_data (left_of l.value-iterator)))
      ≡ all_written (map g.T.JsonValue.value_data (values_in l.fn.list));
}
