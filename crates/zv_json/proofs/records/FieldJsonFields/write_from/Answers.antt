use Rattle.std.proofs.Common.{◌+◌, rules}
use Rattle.zv_json.proofs.Wrote.{pushed_more}
use Rattle.zv_json.proofs.records.FieldJsonFields.write_from.Goals as goal
use Rattle.zv_multi.specs.Records.{field_at}
use Rattle.zv_var.specs.Views.{lengthless_list}

pub returns : goal.returns
returns g c =
    let list = lengthless_list c.args.fields in
    pushed_more c.args.items.now.items c.push.new.self.items c.write_from.new.items.items c.in_ok-field_to_json.field-0
    (g.A.JsonKind.to_data (field_at list c.args.from)) (g.R.JsonFields.data_from (c.args.from + 1) list) c.write_from.result (search rules)
    c.in_ok-push.ensures.items c.write_from.ensures
