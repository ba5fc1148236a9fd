use Rattle.zv_make.proofs.Images.{image_read}
use Rattle.zv_make.proofs.image.read_image.Goals as goal

pub returns-in-Ok : goal.returns-in-Ok
returns-in-Ok c =
    λ front image whole. image_read front image _ _ _ c.in_ok-mark.mark whole c.in_ok-mark.ensures c.in_ok-digits.ensures.cases.1 c.in-Ok.ensures.ok
