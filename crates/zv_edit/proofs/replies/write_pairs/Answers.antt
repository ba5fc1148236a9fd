use Rattle.zv_edit.proofs.Common.{◌≡◌, [], ap, rules, flat_map, left_of, pair_text}
use Rattle.zv_command.proofs.Sending.{completes_none}
use Rattle.zv_edit.proofs.replies.write_pairs.Goals as goal

pub returns : goal.returns
returns g c =
    let end : left_of c.loop-key.key-iterator ≡ [] = search rules in
    completes_none c.loop-key.invariant.text (ap (flat_map pair_text) end)
