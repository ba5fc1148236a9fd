use Rattle.zv_hash.specs.Repeats.{AreDistinctBelow}
use Rattle.zv_hash.proofs.repeat.find_repeat.Given as goal

abbrev pub invariant-loop-place : goal.invariant-loop-place
invariant-loop-place l = AreDistinctBelow l.chains.hashes.now l.place
