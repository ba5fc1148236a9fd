use Rattle.zv_frozen.proofs.Common.{refl, rules, tells_sent}
use Rattle.zv_frozen.proofs.form.refuse_key.Goals as goal

pub returns : goal.returns
returns g c = tells_sent c.as_bytes.result.now refl (search rules) c.send.ensures.sent c.send.ensures.later
