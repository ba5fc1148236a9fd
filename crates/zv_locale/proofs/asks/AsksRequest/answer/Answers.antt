use Rattle.zv_locale.proofs.Common.{◌∙◌, ap, sym, IsAnswered, answers}
use Rattle.zv_image.proofs.Faults.{answered, refused}
use Rattle.zv_locale.proofs.asks.AsksRequest.answer.Goals as goal

pub returns-in-Err : goal.returns-in-Err
returns-in-Err g c =
    rw (refused c.args.image.now (IsAnswered c.args.image.now c.args.self.now) c.in-Err.cause (sym c.in-Err.ensures.error)) c.refuse.ensures

pub returns-in-Ok : goal.returns-in-Ok
returns-in-Ok g c =
    let map = c.in-Ok.ensures in
    let is = ap (answers c.in-Ok.map.rows) (c.as_slice.ensures.commands ∙ c.self.view_is) in
    let told = c.tell.ensures in
    answered _ (IsAnswered c.args.image.now c.args.self.now) _ _ (sym map.error) (c.in-Ok.map.rows, map.map, is) told.text told.cause c.status_of.ensures
