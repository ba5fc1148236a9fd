use Rattle.zv_command.proofs.Common.{◌++◌, List, ℕ, ◌∙◌, ap, append_assoc, rules, encode_lower}
use Rattle.zv_command.proofs.Sending.{sends_later}
use Rattle.zv_command.proofs.output.Output.write_field.Goals as goal

pub returns : goal.returns
returns g c =
    let hex = encode_lower c.args.bytes.now in
    sends_later (search rules)
    (c.push_hex.ensures ∙ ap (λ (l : List ℕ). l ++ hex) c.push.ensures ∙ append_assoc c.args.self.now.piece c.args.head.now hex)
