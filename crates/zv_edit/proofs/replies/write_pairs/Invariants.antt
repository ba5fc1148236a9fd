use Rattle.zv_edit.proofs.Common.{flat_map, left_of, pair_text}
use Rattle.zv_command.proofs.Sending.{Completes}
use Rattle.zv_edit.proofs.replies.write_pairs.Given as goal

abbrev pub invariant-loop-key : goal.invariant-loop-key
invariant-loop-key g l = record {
  can_next : (goal.iterator-loop-key g).can_next l.key-iterator;
  is_finite : (goal.iterator-loop-key g).is_finite l.key-iterator;
  text : Completes g.K.Sink.taken g.K.Sink.faults l.initial.out l.out (flat_map pair_text (left_of l.fn.pairs)) (flat_map pair_text (left_of l.key-iterator));
}
