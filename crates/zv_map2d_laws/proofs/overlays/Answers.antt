use Rattle.zv_map2d_laws.proofs.Laid.{associative, empty_over, found_in_upper, only_overlay, over_itself, over_none, overlay_in_order}
use Rattle.zv_map2d_laws.proofs.overlays.Goals as goal

pub returns : goal.returns
returns c = search (found_in_upper, overlay_in_order, only_overlay, associative, over_itself, over_none, empty_over)
