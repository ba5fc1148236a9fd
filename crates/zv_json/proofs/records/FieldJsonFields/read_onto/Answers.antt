use Rattle.std.proofs.Common.{rules}
use Rattle.zv_json.proofs.Fields.{read_valid}
use Rattle.zv_json.proofs.records.FieldJsonFields.read_onto.Goals as goal

pub returns-clause-valid : goal.returns-clause-valid
returns-clause-valid g c =
    read_valid g.A.JsonKind.of_data g.R.JsonFields.read g.A.ZvKind.fault g.R.FieldKinds.faults c.args.items.now c.first-item.result
    c.in_ok-element_from_json.field-0 c.read_onto.result (search rules) c.first-item.is (search rules) (search rules) c.read_onto.ensures.valid
