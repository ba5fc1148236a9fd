use Rattle.std.proofs.Common.{map}
use Rattle.zv_ule.specs.Views.{element_of}
use Rattle.zv_map.proofs.Common.{◌≡◌, take, permuted, list_of}
use Rattle.zv_map.proofs.permute.views_at.Given as goal

abbrev pub invariant-loop-place : goal.invariant-loop-place
invariant-loop-place g l = map element_of l.views.items ≡ permuted (list_of l.elements) (take l.place-index l.places)
