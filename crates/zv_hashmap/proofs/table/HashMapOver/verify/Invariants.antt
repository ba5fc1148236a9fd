use Rattle.zv_hashmap.proofs.Common.{◌≡◌, ℕ, ◌<◌, Some, nth, slot_of_key}
use Rattle.zv_hashmap.proofs.table.HashMapOver.verify.Given as goal

-- the keys before this slot are home
abbrev pub invariant-loop-slot : goal.invariant-loop-slot
invariant-loop-slot g l = (s : ℕ) → s < l.slot → slot_of_key g.K.HashBytes.hashed l.self (nth l.self.keys s) ≡ Some s
