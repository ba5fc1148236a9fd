use Rattle.zv_json.specs.Again.{list_again}
use Rattle.zv_json.proofs.laws.elements_are_read_again.Goals as goal

pub returns-clause-list : goal.returns-clause-list
returns-clause-list g c =
    list_again g.T.ZvKind.fault g.T.JsonAgain.Alike g.T.JsonKind.to_data g.T.JsonKind.of_data (g.met.T.JsonAgain.again c.requires)
