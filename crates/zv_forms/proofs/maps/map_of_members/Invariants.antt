use Rattle.std.proofs.Common.{◌≡◌, []}
use Rattle.serde_json.specs.View.{members_view}
use Rattle.zv_forms.specs.Maps.{members_in}
use Rattle.zv_map1.specs.Fits.{rule_of}
use Rattle.zv_map1.specs.Room.{IsOwned}
use Rattle.zv_forms.proofs.maps.map_of_members.Given as goal

abbrev pub invariant-loop-name : goal.invariant-loop-name
invariant-loop-name g l =
    let rule = rule_of g.C.ZvContainer.takes_insert g.D.ZvContainer.takes_insert g.D.ZvContainer.takes_replace in
    let read = members_in rule g.K.ZvOrd.cmp g.K.JsonKind.of_name g.K.JsonKind.of_data g.V.JsonKind.of_data in
    record {
      owned : IsOwned l.map;
      pairs : read l.map.pairs (members_view l.name-iterator) ≡ read [] (members_view l.fn.members.entries);
    }
