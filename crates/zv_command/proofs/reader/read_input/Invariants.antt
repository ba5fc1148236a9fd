use Rattle.zv_command.proofs.Common.{◌≡◌, ℕ, ◌+◌, ◌≤◌, List, length, Option, Some, None, Lacks, kept_size, outcome_with, request_of}
use Rattle.zv_command.specs.declared.reader.Reader.{Reader}
use Rattle.zv_command.proofs.reader.read_input.Given as goal

-- a reader of the bytes that were read, with room for so many more
abbrev pub Reads : {A : Type 0} → (A → List ℕ → Option A) → A → Option (List ℕ) → Option (List ℕ) → Reader A → ℕ → Type 0
Reads with_line request None now reader room = Unit
Reads with_line request (Some input) None reader room = ⊥
Reads with_line request (Some input) (Some left) reader room =
    (request_of with_line request input ≡ outcome_with with_line reader left) × (length input + room ≡ 16777216 + length left)

-- what the bytes so far say, and those that are left
abbrev pub invariant-loop-count : goal.invariant-loop-count
invariant-loop-count g l = record {
  reads : Reads g.C.Request.with_line l.fn.request (g.S.Source.left l.initial.source) (g.S.Source.left l.source) l.reader l.room;
  partial : Lacks 10 l.reader.tail.items;
  fits : kept_size g.C.Request.size l.reader + l.room ≤ 16777216;
  later : g.S.Source.faults l.initial.source ≤ g.S.Source.faults l.source;
}

abbrev pub decreases-loop-count : goal.decreases-loop-count
decreases-loop-count g l = l.room
