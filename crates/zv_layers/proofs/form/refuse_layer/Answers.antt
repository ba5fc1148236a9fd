use Rattle.zv_layers.proofs.Common.{refl, rules}
use Rattle.zv_command.proofs.Telling.{tells_sent}
use Rattle.zv_layers.proofs.form.refuse_layer.Goals as goal

pub returns : goal.returns
returns g c = tells_sent c.as_bytes.result.now refl (search rules) c.send.ensures.sent c.send.ensures.later
