use Rattle.zv_command.proofs.Common.{rules, ◌≡◌, ◌++◌, refl, nil_from_length}
use Rattle.zv_command.proofs.Sending.{completes_more, completes_none, sends_then, sends_later}
use Rattle.zv_command.proofs.output.Output.write_pieces.Goals as goal

pub loop-rest-preserved : goal.loop-rest-preserved
loop-rest-preserved g c =
    let cut : c.loop-rest.rest.now ≡ c.split_at.result.0.now ++ c.split_at.result.1.now = search rules in
    completes_more c.loop-rest.invariant cut (sends_then c.make_room.ensures.text (search rules) (sends_later refl c.push.ensures)) (search rules)

pub returns : goal.returns
returns g c = completes_none c.loop-rest.invariant (nil_from_length c.loop-rest.rest.now (search rules))
