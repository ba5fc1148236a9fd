use Rattle.std.proofs.Common.{refl}
use Rattle.zv_map2d.proofs.Flat.{view_of}
use Rattle.zv_map2d.specs.Causes.{Lists}
use Rattle.zv_map2d.specs.Rows.{IsFlat, Rows, ends, firsts, seconds, values}
use Rattle.zv_map2d_laws.proofs.Checks.{held_fault}
use Rattle.zv_framed.proofs.map2d.lists_are_sound.Goals as goal

own_lists : (m : Rows) → IsFlat (firsts m) (ends m) (seconds m) (values m) m
own_lists m = record { firsts_are = refl; ends_are = refl; seconds_are = refl; values_are = refl }

pub returns-clause-sound : goal.returns-clause-sound
returns-clause-sound g c =
    let m = c.args.map.now.rows in
    let lists : Lists = record { keys0 = firsts m; joiner = ends m; keys1 = seconds m; values = values m } in
    held_fault g.K0.ZvOrd.cmp g.K1.ZvOrd.cmp lists m (own_lists m, c.in_order.ensures.ascending)

pub returns-clause-rows : goal.returns-clause-rows
returns-clause-rows g c = view_of (own_lists c.args.map.now.rows)
