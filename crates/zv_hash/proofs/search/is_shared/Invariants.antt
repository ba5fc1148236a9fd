use Rattle.zv_hash.proofs.Common.{◌≡◌, ◌-◌, sent_to}
use Rattle.zv_hash.proofs.Links.{Walk}
use Rattle.zv_hash.proofs.search.is_shared.Given as goal

-- no member before this one goes to the slot
abbrev pub invariant-loop-at : goal.invariant-loop-at
invariant-loop-at l = let hs = l.chains.hashes.now in Walk hs l.bucket l.at (λ i. sent_to hs l.d i ≡ l.slot → ⊥)

abbrev pub decreases-loop-at : goal.decreases-loop-at
decreases-loop-at l = l.place - l.at
