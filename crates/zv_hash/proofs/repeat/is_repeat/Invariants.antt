use Rattle.zv_hash.proofs.Common.{◌≡◌, ◌-◌, slice_index, bucket_at}
use Rattle.zv_hash.proofs.Links.{Walk}
use Rattle.zv_hash.proofs.repeat.is_repeat.Given as goal

-- no hash of the bucket before this one is the same
abbrev pub invariant-loop-at : goal.invariant-loop-at
invariant-loop-at l = let hs = l.chains.hashes.now in Walk hs (bucket_at hs l.place) l.at (λ i. slice_index hs i ≡ slice_index hs l.place → ⊥)

abbrev pub decreases-loop-at : goal.decreases-loop-at
decreases-loop-at l = l.place - l.at
