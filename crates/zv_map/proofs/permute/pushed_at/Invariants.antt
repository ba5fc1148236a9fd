use Rattle.zv_map.proofs.Common.{◌≡◌, true, take, drop, takes_pushes, permuted, list_of}
use Rattle.zv_map.proofs.permute.pushed_at.Given as goal

abbrev pub invariant-loop-place : goal.invariant-loop-place
invariant-loop-place g l = record {
  list : g.C.ZeroVecLike.list l.ordered ≡ permuted (list_of l.elements) (take l.place-index l.places);
  owned : g.C.ZvContainer.owned l.ordered ≡ true;
  taken : takes_pushes g.C.ZvContainer.takes_insert (g.C.ZeroVecLike.list l.ordered)
      (permuted (list_of l.elements) (drop l.place-index l.places)) ≡ true;
}
