use Rattle.std.proofs.Common.{◌≡◌, ◌∙◌, Bool, refl, rules, true}
use Rattle.zv_map2d_laws.proofs.Kept.{fits_alike}
use Rattle.zv_map2d.specs.Fits.{fits_texts}
use Rattle.zv_map.specs.Reserved.{IsTaken}
use Rattle.zv_image.proofs.places.put_fitting.Goals as goal

IsTaken-from : {takes : Bool} → takes ≡ true → IsTaken takes
IsTaken-from is = record { taken = is }

pub put_at-requires : goal.put_at-requires
put_at-requires c κs =
    let m = c.args.map.now.rows in
    let v = c.value_for.result.bytes.now in
    let same : v ≡ c.args.value.now = c.value_for.ensures in
    let fits : fits_texts m c.args.key0.now c.args.key1.now v ≡ true = rw same c.requires.fits in
    let taken = IsTaken-from (fits_alike 4 m c.args.key0.now c.args.key1.now v c.in_order.ensures.ascending ∙ fits) in
    ((refl, tt), (c.requires.place, (search rules, (search rules, (search rules, (taken, rw same c.requires.room))))))
