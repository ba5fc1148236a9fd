use Rattle.zv_json.specs.Back.{list_back}
use Rattle.zv_json.proofs.laws.values_are_read_back.Goals as goal

pub returns-clause-list : goal.returns-clause-list
returns-clause-list g c = list_back g.T.AsULE.is_value g.T.JsonValue.value_data g.T.JsonValue.value_in g.met.T.JsonValue.back
