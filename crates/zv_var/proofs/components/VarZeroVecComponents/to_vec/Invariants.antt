use Rattle.zv_var.proofs.Common.{◌≡◌, ◌++◌, left_of}
use Rattle.zv_var.specs.Views.{parts_of}
use Rattle.zv_var.proofs.components.VarZeroVecComponents.to_vec.Given as goal

abbrev pub invariant-loop-element : goal.invariant-loop-element
invariant-loop-element g l = record {
  can_next : (goal.iterator-loop-element g).can_next l.element-iterator;
  is_finite : (goal.iterator-loop-element g).is_finite l.element-iterator;
  same : l.boxes.items ++ left_of l.element-iterator ≡ parts_of l.fn.self;
}
