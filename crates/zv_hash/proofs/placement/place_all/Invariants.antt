use Rattle.zv_hash.proofs.Common.{length, Filled}
use Rattle.zv_hash.proofs.placement.place_all.Given as goal

abbrev pub invariant-loop-wanted : goal.invariant-loop-wanted
invariant-loop-wanted l = Filled l.chains.hashes.now l.displacements l.places l.wanted (length l.chains.hashes.now)

abbrev pub decreases-loop-wanted : goal.decreases-loop-wanted
decreases-loop-wanted l = l.wanted
