use Rattle.zv_hash.proofs.Common.{ℕ, ◌<◌, length, FitsFree, IsCandidate, IsEarlier}
use Rattle.zv_hash.proofs.search.first_fit.Given as goal

-- no candidate before this one fits
abbrev pub invariant-loop-d0 : goal.invariant-loop-d0
invariant-loop-d0 l = (e : ℕ × ℕ) → IsCandidate (length l.chains.hashes.now) e → e.0 < l.d0 → FitsFree l.chains.hashes.now l.places l.bucket e → ⊥

abbrev pub invariant-loop-d1 : goal.invariant-loop-d1
invariant-loop-d1 l = (e : ℕ × ℕ) → IsCandidate (length l.chains.hashes.now) e → IsEarlier e (l.d0, l.d1) → FitsFree l.chains.hashes.now l.places l.bucket e → ⊥
