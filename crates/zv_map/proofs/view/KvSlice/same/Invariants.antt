use Rattle.zv_map.proofs.Common.{◌≡◌, take, list_of}
use Rattle.zv_map.proofs.view.KvSlice.same.Given as goal

abbrev pub invariant-loop-index : goal.invariant-loop-index
invariant-loop-index g l = take l.index (list_of l.self) ≡ take l.index (list_of l.other)
