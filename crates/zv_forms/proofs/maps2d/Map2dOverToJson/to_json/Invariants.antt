use Rattle.std.proofs.Common.{◌≡◌, map}
use Rattle.serde_json.specs.Data.{no_members}
use Rattle.serde_json.specs.View.{members_view}
use Rattle.zv_forms.specs.Maps.{members_written}
use Rattle.zv_forms.specs.Maps2d.{row_written}
use Rattle.zv_map2d.specs.RowIters.{rows_left}
use Rattle.zv_forms.proofs.maps2d.Map2dOverToJson.to_json.Given as goal

abbrev pub invariant-loop-row : goal.invariant-loop-row
invariant-loop-row g l =
    let row = row_written g.K1.JsonKind.to_name g.V.JsonKind.to_data in
    record {
      can_next : (goal.iterator-loop-row g).can_next l.row-iterator;
      is_finite : (goal.iterator-loop-row g).is_finite l.row-iterator;
      same : members_written g.K0.JsonKind.to_name row (members_view l.members.entries) (map (λ c. (c.key, c.pairs)) (rows_left l.row-iterator))
          ≡ members_written g.K0.JsonKind.to_name row no_members l.fn.self.rows;
    }
