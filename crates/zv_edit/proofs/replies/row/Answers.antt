use Rattle.zv_edit.proofs.Common.{rules}
use Rattle.zv_command.proofs.Sending.{sends_more}
use Rattle.zv_edit.proofs.replies.row.Goals as goal

pub returns : goal.returns
returns g c = rw (← c.in-Some.ensures.pairs) (search (rules, sends_more))
