use Rattle.zv_command.proofs.Common.{◌≡◌, ◌+◌, ◌≤◌, ◌++◌, List, ℕ, length, lines, outcome_of, size_of}
use Rattle.zv_command.proofs.reader.add_lines.Given as goal

-- what the lines so far say, and those that are left
abbrev pub invariant-loop-after : goal.invariant-loop-after
invariant-loop-after g l = record {
  same : (after : List ℕ) → outcome_of g.C.Request.with_line l.initial.progress (lines (l.fn.text ++ after))
      ≡ outcome_of g.C.Request.with_line l.progress (lines (l.rest ++ after));
  fits : size_of g.C.Request.size l.progress + length l.rest ≤ size_of g.C.Request.size l.initial.progress + length l.fn.text;
}

abbrev pub decreases-loop-after : goal.decreases-loop-after
decreases-loop-after g l = length l.rest
