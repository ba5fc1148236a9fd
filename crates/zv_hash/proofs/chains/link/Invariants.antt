use Rattle.zv_hash.proofs.Common.{◌≤◌, length, AreChains}
use Rattle.zv_hash.proofs.chains.link.Given as goal

abbrev pub invariant-loop-place : goal.invariant-loop-place
invariant-loop-place l = record { within : l.place ≤ length l.hashes; linked : AreChains l.hashes l.place l.firsts l.nexts }

abbrev pub decreases-loop-place : goal.decreases-loop-place
decreases-loop-place l = l.place
