use Rattle.zv_props.proofs.Common.{AnswerAlike, take}
use Rattle.std.specs.Prelude.{reverse}
use Rattle.zv_props.proofs.build.build_good.Given as goal

abbrev pub invariant-loop-first : goal.invariant-loop-first
invariant-loop-first l = AnswerAlike l.table (reverse (take l.first-index l.sets))
