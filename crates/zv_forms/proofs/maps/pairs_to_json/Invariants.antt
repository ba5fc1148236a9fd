use Rattle.std.proofs.Common.{◌≡◌, map}
use Rattle.serde_json.specs.View.{view}
use Rattle.zv_forms.specs.Maps.{pair_written}
use Rattle.zv_json.specs.Arrays.{all_written, then_written}
use Rattle.zv_map.specs.Iters.{left_of}
use Rattle.zv_forms.proofs.maps.pairs_to_json.Given as goal

abbrev pub invariant-loop-key : goal.invariant-loop-key
invariant-loop-key g l = record {
  can_next : (goal.iterator-loop-key g).can_next l.key-iterator;
  is_finite : (goal.iterator-loop-key g).is_finite l.key-iterator;
  same : then_written (map view l.items.items) (all_written (map (pair_written g.K.JsonKind.to_data g.V.JsonKind.to_data) (left_of l.key-iterator)))
      ≡ all_written (map (pair_written g.K.JsonKind.to_data g.V.JsonKind.to_data) (left_of l.fn.pairs));
}
