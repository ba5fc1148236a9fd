use Rattle.std.proofs.Common.{drop, map, take, true}
use Rattle.zv_map.proofs.Common.{◌≡◌, []}
use Rattle.zv_owned.specs.Size.{takes_pushes}
use Rattle.zv_ule.specs.Views.{element_of}
use Rattle.zv_map.proofs.gather.container_of.Given as goal

abbrev pub invariant-loop-element : goal.invariant-loop-element
invariant-loop-element g l = record {
  list : g.C.ZeroVecLike.list l.list ≡ map element_of (take l.element-index l.elements);
  owned : g.C.ZvContainer.owned l.list ≡ true;
  taken : takes_pushes g.C.ZvContainer.takes_insert (g.C.ZeroVecLike.list l.list) (map element_of (drop l.element-index l.elements))
      ≡ takes_pushes g.C.ZvContainer.takes_insert [] (map element_of l.elements);
}
