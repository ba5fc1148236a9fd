use Rattle.serde_json.specs.View.{members_view}
use Rattle.zv_forms.proofs.Ascending.{AreReadSoFar}
use Rattle.zv_forms.proofs.maps.ascending_columns.Given as goal

abbrev pub invariant-loop-name : goal.invariant-loop-name
invariant-loop-name g l = AreReadSoFar g.K.ZvOrd.cmp g.K.JsonKind.of_name g.K.JsonKind.of_data g.V.JsonKind.of_data (members_view l.fn.members.entries)
    (members_view l.name-iterator) l.keys.items l.values.items
