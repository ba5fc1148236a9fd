use Rattle.zv_frozen.proofs.Common.{◌∙◌, Rows, ap, canon, told}
use Rattle.zv_edit.specs.Answers.{answers}
use Rattle.zv_image.specs.Text.{image_line}
use Rattle.zv_frozen.specs.Requests.{IsThawed, thaw_due}
use Rattle.zv_frozen.proofs.form.answer_thawed.Goals as goal

pub returns-in-Ok : goal.returns-in-Ok
unfolding thaw_due
returns-in-Ok g c =
    let text = ap (answers c.in-Ok.map.rows) c.new.ensures ∙ ap (λ (m : Rows). image_line (canon m)) c.in-Ok.ensures.rows in
    rw c.requires.sound (told (IsThawed c.args.bytes.now) _ _ (c.args.frozen.now, c.requires.table, text)
    c.serve-in-Ok.ensures.text c.serve-in-Ok.ensures.cause c.status_of.ensures)
