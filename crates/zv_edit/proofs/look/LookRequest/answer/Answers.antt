use Rattle.zv_edit.proofs.Common.{sym, IsLooked}
use Rattle.zv_image.proofs.Faults.{answered, refused}
use Rattle.zv_edit.proofs.Looks.{found_look}
use Rattle.zv_edit.proofs.look.LookRequest.answer.Goals as goal

pub returns-in-Err : goal.returns-in-Err
returns-in-Err g c = rw (refused c.args.image.now (IsLooked c.args.image.now c.args.self.now) c.in-Err.cause (sym c.in-Err.ensures.error)) c.refuse.ensures

pub returns-in-Ok : goal.returns-in-Ok
returns-in-Ok g c =
    let image = c.args.image.now in
    let wanted = found_look image _ _ c.args.self.now _ c.as_str.ensures c.as_str-2.ensures c.in-Ok.ensures.value in
    answered image (IsLooked image c.args.self.now) _ _ (sym c.in-Ok.ensures.error) wanted
    c.tell_found.ensures.text c.tell_found.ensures.cause c.status_of.ensures
