use Rattle.zv_hash.proofs.Common.{ℕ, ◌<◌, ◌≤◌, get_or}
use Rattle.zv_hash.proofs.placement.largest_up_to.Given as goal

abbrev pub invariant-loop-size : goal.invariant-loop-size
invariant-loop-size l = record {
  within : l.largest ≤ l.limit;
  largest : (g : ℕ) → g < l.size-index → get_or l.sizes g 0 ≤ l.limit → get_or l.sizes g 0 ≤ l.largest;
}
