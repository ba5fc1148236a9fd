use Rattle.std.proofs.Common.{◌≡◌, map, take}
use Rattle.zv_ule.specs.Views.{element_of}
use Rattle.zv_forms.proofs.maps.container_of_boxes.Given as goal

abbrev pub invariant-loop-element : goal.invariant-loop-element
invariant-loop-element g l = map element_of l.views.items ≡ take l.element-index l.elements
