use Rattle.std.proofs.Common.{◌≡◌, ◌-◌, ◌≤◌, length}
use Rattle.std.specs.List.{copy_within}
use Rattle.zv_bytes.proofs.copy_down.Given as goal

abbrev pub invariant-loop-at : goal.invariant-loop-at
invariant-loop-at l = (l.place ≤ l.at) × (l.at ≤ l.end) × (l.end ≤ length l.bytes)
    × (copy_within l.bytes l.at l.end l.place ≡ copy_within l.initial.bytes l.from l.end l.to)

abbrev pub decreases-loop-at : goal.decreases-loop-at
decreases-loop-at l = l.end - l.at
