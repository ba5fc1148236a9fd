use Rattle.zv_edit.proofs.Common.{ap, reply, text}
use Rattle.zv_command.proofs.Sending.{sends_as}
use Rattle.zv_input.specs.Views.{as_command}
use Rattle.zv_edit.proofs.replies.run_command.Goals as goal

pub returns-in-Get-clause-text : goal.returns-in-Get-clause-text
returns-in-Get-clause-text g c = sends_as (ap (λ x. text (reply c.args.map.now.rows (as_command x))) c.in-Get.is) c.get.ensures
