use Rattle.zv_hash.proofs.Common.{◌≡◌, ℕ, ◌-◌, ◌⊎◌, length, get_or, IsMember, sent_to}
use Rattle.zv_hash.proofs.Links.{Walk}
use Rattle.zv_hash.proofs.placement.hold.Given as goal

-- the members before this one hold their slots, and other slots hold what they held
abbrev pub invariant-loop-place : goal.invariant-loop-place
invariant-loop-place l = let hs = l.chains.hashes.now in record {
  len : length l.places ≡ length hs;
  walk : Walk hs l.bucket l.place (λ i. get_or l.places (sent_to hs l.d i) 0 ≡ i);
  others : (t : ℕ) → let i : ℕ = get_or l.places t 0 in (IsMember hs l.bucket i × (sent_to hs l.d i ≡ t)) ⊎ (i ≡ get_or l.fn.places t 0);
}

abbrev pub decreases-loop-place : goal.decreases-loop-place
decreases-loop-place l = length l.chains.hashes.now - l.place
