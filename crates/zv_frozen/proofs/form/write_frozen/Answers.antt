use Rattle.zv_frozen.proofs.Common.{append-nil, rules, sym}
use Rattle.zv_command.proofs.Sending.{sends_as, sends_then}
use Rattle.zv_frozen.proofs.form.write_frozen.Goals as goal

pub returns-clause-text : goal.returns-clause-text
returns-clause-text g c = sends_as (sym (append-nil _)) (sends_then c.write_value.ensures (search rules) c.send.ensures.text)
