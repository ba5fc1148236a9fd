use Rattle.std.specs.Prelude.{⊤}
use Rattle.std.proofs.Common.{◌^◌, ◌<◌, length}
use Rattle.std.specs.List.{All}
use Rattle.zv_ule.specs.Views.{element_of}
use Rattle.zv_hash_tests.proofs.records.are_answered.Given as goal

abbrev pub invariant-loop-bytes : goal.invariant-loop-bytes
invariant-loop-bytes g l = All (λ p. length (element_of p.0) < 2 ^ 64) l.pairs.items × All (λ p. length (element_of p.1) < 2 ^ 64) l.pairs.items

abbrev pub invariant-loop-key : goal.invariant-loop-key
invariant-loop-key g l = ⊤
