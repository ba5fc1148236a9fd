use Rattle.zv_hashmap.proofs.Common.{◌≡◌, ℕ, ◌<◌, Equal, nth, list_of}
use Rattle.zv_hashmap.proofs.build.earlier_place.Given as goal

abbrev pub invariant-loop-first : goal.invariant-loop-first
invariant-loop-first g l = (i : ℕ) → i < l.first → g.K.ZvOrd.cmp (nth (list_of l.keys) i) (nth (list_of l.keys) l.second) ≡ Equal → ⊥
