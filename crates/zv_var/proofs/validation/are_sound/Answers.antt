use Rattle.zv_var.proofs.Common.{◌≡◌, true, refl, sym, fields}
use Rattle.zv_var.proofs.Rising.{none_everywhere, none_between}
use Rattle.zv_var.proofs.validation.are_sound.Goals as goal

pub returns-then-is_sound_everywhere : goal.returns-then-is_sound_everywhere
returns-then-is_sound_everywhere g c t = none_everywhere g.T.ZvKind.fault c.args.body.now (c.if-is_sound_everywhere.ensures.everywhere refl) 0
    (fields g.F.VarZeroVecFormat.W c.args.starts c.args.indices.now) (sym c.if-not-are_in_order.ensures)

pub returns : goal.returns
returns g c t = none_between g.T.ZvKind.fault c.args.body.now (λ a. g.T.ZvKind.boundary c.args.body.now a ≡ true)
    (c.if-not-is_sound_between_boundaries.ensures.between refl) (c.if-not-is_boundary-2.ensures refl) 0
    (fields g.F.VarZeroVecFormat.W c.args.starts c.args.indices.now) (c.if-not-is_boundary.ensures refl) (c.are_boundaries.ensures t)
    (sym c.if-not-are_in_order.ensures)
