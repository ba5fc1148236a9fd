use Rattle.std.proofs.Common.{◌∙◌}
use Rattle.zv_map2d.proofs.Formed.{settled_parts}
use Rattle.zv_callers.proofs.images.stored_parts.Goals as goal

pub returns : goal.returns
returns c = c.canon_parts.ensures.written ∙ settled_parts _ c.requires
