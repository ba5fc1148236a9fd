use Rattle.std.proofs.Common.{◌≡◌, true}
use Rattle.zv_fixed.proofs.vector.ZeroVec.try_collect.Given as goal

abbrev pub invariant-loop-item : goal.invariant-loop-item
invariant-loop-item g l =
    (goal.iterator-loop-item g).can_next l.item-iterator
    × (goal.iterator-loop-item g).is_finite l.item-iterator
    × (l.list.values ≡ l.yielded)
    × (l.list.owned ≡ true)
