use Rattle.std.proofs.Common.{◌≡◌}
use Rattle.serde_json.specs.Data.{no_members}
use Rattle.serde_json.specs.View.{members_view}
use Rattle.zv_forms.specs.Maps.{members_written}
use Rattle.zv_map.specs.Iters.{left_of}
use Rattle.zv_forms.proofs.maps.members_to_json.Given as goal

abbrev pub invariant-loop-key : goal.invariant-loop-key
invariant-loop-key g l = record {
  can_next : (goal.iterator-loop-key g).can_next l.key-iterator;
  is_finite : (goal.iterator-loop-key g).is_finite l.key-iterator;
  same : members_written g.K.JsonKind.to_name g.V.JsonKind.to_data (members_view l.members.entries) (left_of l.key-iterator)
      ≡ members_written g.K.JsonKind.to_name g.V.JsonKind.to_data no_members (left_of l.fn.pairs);
}
