use Rattle.zv_map2d.proofs.Common.{◌≡◌, Some, length, list_all, left_of, pieces, last_ascending, ascends}
use Rattle.zv_fixed.specs.Views.{values_in}
use Rattle.zv_map2d.proofs.parse.rows_ascend.Given as goal

abbrev pub invariant-loop-end : goal.invariant-loop-end
invariant-loop-end g l = let xs = g.C.ZeroVecLike.list l.keys in let rest = left_of l.end-iterator in record {
  can_next : (goal.iterator-loop-end g).can_next l.end-iterator;
  is_finite : (goal.iterator-loop-end g).is_finite l.end-iterator;
  last : last_ascending l.start rest ≡ Some (length xs);
  same : list_all (ascends g.K.ZvOrd.cmp) (pieces xs l.start rest) ≡ list_all (ascends g.K.ZvOrd.cmp) (pieces xs 0 (values_in l.joiner));
}
