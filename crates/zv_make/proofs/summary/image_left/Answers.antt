use Rattle.std.proofs.Common.{[], ◌∙◌}
use Rattle.zv_edit.specs.Answers.{last, reply_lines}
use Rattle.zv_map2d.specs.Image.{canon}
use Rattle.zv_make.proofs.Made.{answered}
use Rattle.zv_make.proofs.summary.image_left.Goals as goal

pub returns : goal.returns
returns c =
    let cs = c.args.commands.now in
    let ok = c.in-Ok.ensures.ok in
    c.in-Some.ensures (reply_lines [] cs) (canon (last [] cs)) (c.taken.ensures.bytes ∙ (rw c.in_ok-sink.ensures at ok.2) ∙ answered ok.0 cs ok.1)
