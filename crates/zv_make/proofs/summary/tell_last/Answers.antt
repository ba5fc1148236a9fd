use Rattle.std.proofs.Common.{◌≡◌, ◌-◌, ◌^◌, ◌<◌, [], length, ◌∙◌, arith}
use Rattle.std.proofs.lemmas.Grind.{common_steps}
use Rattle.zv_edit.specs.Answers.{last}
use Rattle.zv_map2d.specs.Image.{canon}
use Rattle.zv_make.proofs.Made.{made_reads}
use Rattle.zv_make.proofs.summary.tell_last.Goals as goal

pub returns : goal.returns
returns c =
    let left = last [] c.args.commands.now in
    let image : c.deref.result.now ≡ canon left = c.deref.ensures.value ∙ c.in_ok-image.ensures in
    let short : length (canon left) < 2 ^ 64 - 1 = rw (← image) (omega arith) in
    let rows : c.in-Ok.map.rows ≡ left = (made_reads c.args.commands.now c.as_slice.ensures.texts short).1 _ (rw image at c.in-Ok.ensures.map) in
    grind (arith, common_steps)
