use Rattle.std.proofs.Common.{◌∙◌, ap, map}
use Rattle.zv_map2d.proofs.cursor.ZeroMap2dCursor.iter1_copied.Goals as goal

pub returns : goal.returns
returns g c = c.copied_values.ensures ∙ ap (map (λ p. (p.0, g.V.AsULE.loaded (g.V.ULE.ULE.value p.1)))) c.iter1.ensures
