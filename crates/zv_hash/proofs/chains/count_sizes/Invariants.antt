use Rattle.zv_hash.proofs.Common.{◌≡◌, ℕ, ◌<◌, ◌==◌, length, get_or, take, bucket_of, count_by}
use Rattle.zv_hash.proofs.chains.count_sizes.Given as goal

-- the sizes count the hashes so far
abbrev pub invariant-loop-hash : goal.invariant-loop-hash
invariant-loop-hash l = record {
  len : length l.sizes ≡ length l.hashes;
  counts : (g : ℕ) → g < length l.hashes → get_or l.sizes g 0 ≡ count_by (λ h. bucket_of (length l.hashes) h == g) (take l.hash-index l.hashes);
}
