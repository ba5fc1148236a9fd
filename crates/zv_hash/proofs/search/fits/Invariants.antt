use Rattle.zv_hash.proofs.Common.{◌≡◌, ℕ, ◌-◌, ◌<◌, ◌≤◌, length, get_or, IsMember, sent_to}
use Rattle.zv_hash.proofs.Links.{Walk}
use Rattle.zv_hash.proofs.search.fits.Given as goal

-- the members before this one go to free slots, each to one that none before it goes to
abbrev pub invariant-loop-place : goal.invariant-loop-place
invariant-loop-place l = let hs = l.chains.hashes.now in Walk hs l.bucket l.place (λ i.
    (length hs ≤ get_or l.places (sent_to hs l.d i) 0) × ((j : ℕ) → IsMember hs l.bucket j → j < i → sent_to hs l.d j ≡ sent_to hs l.d i → ⊥))

abbrev pub decreases-loop-place : goal.decreases-loop-place
decreases-loop-place l = length l.chains.hashes.now - l.place
