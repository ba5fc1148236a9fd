use Rattle.std.proofs.Common.{◌≡◌, [], map, drop}
use Rattle.serde_json.specs.View.{view}
use Rattle.zv_forms.specs.Maps.{pairs_in}
use Rattle.zv_map1.specs.Fits.{rule_of}
use Rattle.zv_map1.specs.Room.{IsOwned}
use Rattle.zv_forms.proofs.maps.map_of_pairs.Given as goal

abbrev pub invariant-loop-item : goal.invariant-loop-item
invariant-loop-item g l =
    let rule = rule_of g.C.ZvContainer.takes_insert g.D.ZvContainer.takes_insert g.D.ZvContainer.takes_replace in
    let read = pairs_in rule g.K.ZvOrd.cmp g.K.JsonKind.of_name g.K.JsonKind.of_data g.V.JsonKind.of_data in
    record {
      owned : IsOwned l.map;
      pairs : read l.map.pairs (map view (drop l.item-index l.items)) ≡ read [] (map view l.items);
    }
