use Rattle.std.proofs.Common.{◌≡◌, map}
use Rattle.serde_json.specs.View.{view}
use Rattle.zv_json.specs.Arrays.{all_written, then_written}
use Rattle.zv_map.specs.Iters.{elements_left}
use Rattle.zv_map.specs.Views.{list_of}
use Rattle.zv_forms.proofs.tables.container_to_json.Given as goal

abbrev pub invariant-loop-element : goal.invariant-loop-element
invariant-loop-element g l = record {
  can_next : (goal.iterator-loop-element g).can_next l.element-iterator;
  is_finite : (goal.iterator-loop-element g).is_finite l.element-iterator;
  same : then_written (map view l.items.items) (all_written (map g.T.JsonKind.to_data (elements_left l.element-iterator)))
      ≡ all_written (map g.T.JsonKind.to_data (list_of l.fn.list));
}
