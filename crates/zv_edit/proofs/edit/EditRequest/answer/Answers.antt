use Rattle.zv_edit.proofs.Common.{◌∙◌, ap, answers, sym, IsAnswer}
use Rattle.zv_image.proofs.Faults.{answered, refused}
use Rattle.zv_edit.proofs.Served.{made}
use Rattle.zv_edit.proofs.edit.EditRequest.answer.Goals as goal

pub serve_all-requires : goal.serve_all-requires
serve_all-requires g c =
    record { room = rw (c.iter.ensures, ← c.put_sizes.ensures.sizes) (made c.reserve.result c.if-is_err.ensures.value c.reserve.ensures.room) }

pub returns-in-Err : goal.returns-in-Err
returns-in-Err g c =
    rw (refused c.args.image.now (IsAnswer c.args.image.now c.args.self.now) c.in-Err.cause (sym c.in-Err.ensures.error)) c.refuse.ensures

pub returns : goal.returns
returns g c =
    let image = c.in-Ok.ensures in
    let m = c.reserve.new.map.rows in
    let is = ap (answers m) (c.iter.ensures ∙ c.self.view_is) in
    let served = c.serve_all.ensures in
    answered _ (IsAnswer c.args.image.now c.args.self.now) _ _ (sym image.error) (m, rw c.reserve.ensures.rows image.map, is)
    served.text served.cause c.status_of.ensures
