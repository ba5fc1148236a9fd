use Rattle.zv_frozen.proofs.Common.{◌<◌, ◌≡◌, IsKey, drop, first_no_key, list_of, nth, ℕ}
use Rattle.zv_frozen.proofs.frozen.first_no_key.Given as goal

-- the keys before this place are those of two texts
abbrev pub invariant-loop-place : goal.invariant-loop-place
invariant-loop-place l = record {
  first : first_no_key 0 (list_of l.keys) ≡ first_no_key l.place (drop l.place (list_of l.keys));
  keys : (s : ℕ) → s < l.place → IsKey (nth (list_of l.keys) s);
}
