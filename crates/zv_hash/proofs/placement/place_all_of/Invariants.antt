use Rattle.zv_hash.proofs.Common.{◌≤◌, length, Filled}
use Rattle.zv_hash.proofs.placement.place_all_of.Given as goal

abbrev pub invariant-loop-bucket : goal.invariant-loop-bucket
invariant-loop-bucket l = record {
  within : l.bucket ≤ length l.chains.hashes.now;
  filled : Filled l.chains.hashes.now l.displacements l.places l.wanted l.bucket;
}

abbrev pub decreases-loop-bucket : goal.decreases-loop-bucket
decreases-loop-bucket l = l.bucket
