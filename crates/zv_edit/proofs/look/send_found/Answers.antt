use Rattle.zv_edit.proofs.Common.{rules, append-nil, sym}
use Rattle.zv_command.proofs.Sending.{sends_as, sends_then}
use Rattle.zv_edit.proofs.look.send_found.Goals as goal

pub returns-clause-text : goal.returns-clause-text
returns-clause-text g c = sends_as (sym (append-nil _)) (sends_then c.write_looked.ensures (search rules) c.send.ensures.text)
