use Rattle.zv_layers.proofs.Common.{arith, field_is, length, sum_by_push}
use Rattle.std.proofs.lemmas.Grind.{common_steps}
use Rattle.zv_layers.proofs.form.LayersRequest.add_line.Goals as goal

pub returns-clause-size : goal.returns-clause-size
returns-clause-size c =
    let size = field_is c.args.line.now in
    let sum = sum_by_push length c.args.self.now c.in-Some.image.items in
    grind (arith, common_steps)
