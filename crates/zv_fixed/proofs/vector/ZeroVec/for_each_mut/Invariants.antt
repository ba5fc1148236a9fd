use Rattle.std.proofs.Common.{◌≡◌, ◌≤◌, true, length, take, drop}
use Rattle.zv_fixed.specs.Calls.{AnswersEach}
use Rattle.zv_fixed.proofs.vector.ZeroVec.for_each_mut.Given as goal

abbrev pub invariant-loop-index : goal.invariant-loop-index
invariant-loop-index g l = record {
  callable : goal.F-IsAlwaysCallable g l.f;
  owned : l.self.owned ≡ true;
  spare : l.initial.self.spare ≤ l.self.spare;
  long : length l.self.values ≡ length l.initial.self.values;
  kept : drop l.index l.self.values ≡ drop l.index l.initial.self.values;
  answers : (d : AnswersEach g.F.FnMut l.initial.f (take l.index l.initial.self.values) (take l.index l.self.values)) × (d.last ≡ l.f);
}
