use Rattle.std.proofs.Common.{◌≡◌, []}
use Rattle.serde_json.specs.View.{members_view}
use Rattle.zv_forms.specs.Maps2d.{rows_in}
use Rattle.zv_map2d.specs.Fits.{rule_of}
use Rattle.zv_map2d.specs.Room.{IsOwned}
use Rattle.zv_forms.proofs.maps2d.map_of_rows.Given as goal

abbrev pub invariant-loop-name : goal.invariant-loop-name
invariant-loop-name g l =
    let rule = rule_of g.C0.ZvContainer.takes_insert g.C1.ZvContainer.takes_insert g.D.ZvContainer.takes_insert g.D.ZvContainer.takes_replace in
    let read = rows_in rule g.K0.ZvOrd.cmp g.K1.ZvOrd.cmp g.K0.JsonKind.of_name g.K1.JsonKind.of_name g.V.JsonKind.of_data in
    record {
      owned : IsOwned l.map;
      rows : read l.map.rows (members_view l.name-iterator) ≡ read [] (members_view l.fn.rows.entries);
    }
