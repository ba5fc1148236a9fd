use Rattle.zv_map2d.proofs.Common.{◌≡◌, ℕ, ◌+◌, ◌-◌, ◌<◌, ◌≤◌, length, get_or, true}
use Rattle.zv_map2d.proofs.map.changes.shift.Given as goal

abbrev pub invariant-loop-row : goal.invariant-loop-row
invariant-loop-row l = record {
  owned : l.ends.owned ≡ true;
  spare : l.ends.spare ≡ l.initial.ends.spare;
  size : length l.ends.values ≡ length l.initial.ends.values;
  low : (k : ℕ) → k < l.from → get_or l.ends.values k 0 ≡ get_or l.initial.ends.values k 0;
  done : (k : ℕ) → l.from ≤ k → k < l.row → k < length l.initial.ends.values →
      get_or l.ends.values k 0 ≡ get_or l.initial.ends.values k 0 + l.more - l.less;
  rest : (k : ℕ) → l.row ≤ k → get_or l.ends.values k 0 ≡ get_or l.initial.ends.values k 0;
}
