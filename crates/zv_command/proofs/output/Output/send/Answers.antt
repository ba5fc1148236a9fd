use Rattle.zv_command.proofs.Common.{rules, append-nil, refl, sym, nil_from_length}
use Rattle.zv_command.proofs.Sending.{sends_later}
use Rattle.zv_command.proofs.output.Output.send.Goals as goal

pub returns-then-is_empty : goal.returns-then-is_empty
returns-then-is_empty g c = record {
  text = sends_later refl (sym (append-nil c.args.self.now.piece));
  empty = nil_from_length c.args.self.now.piece (search rules);
}
