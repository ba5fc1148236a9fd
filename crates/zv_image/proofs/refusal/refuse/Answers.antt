use Rattle.std.proofs.Common.{refl}
use Rattle.zv_command.proofs.Telling.{tells_sent}
use Rattle.zv_image.proofs.refusal.refuse.Goals as goal

pub returns : goal.returns
returns g c = tells_sent c.cause_text.result.now refl c.cause_text.ensures c.send.ensures.sent c.send.ensures.later
