use Rattle.std.proofs.Common.{◌≡◌, ◌∙◌}
use Rattle.zv_map2d_laws.proofs.Kept.{fits_alike}
use Rattle.zv_image.proofs.places.fits.Goals as goal

pub returns : goal.returns
returns c =
    let v = c.value_for.result.bytes.now in
    let same : v ≡ c.args.value.now = c.value_for.ensures in
    rw same at (c.takes_at.ensures ∙ fits_alike 4 c.args.map.now.rows c.args.key0.now c.args.key1.now v c.in_order.ensures.ascending)
