use Rattle.zv_edit.proofs.Common.{◌≡◌, ℕ, drop, take, last, reply_lines, HasRoomOf, put_sizes}
use Rattle.zv_command.proofs.Sending.{Completes}
use Rattle.zv_edit.proofs.serving.run_commands.Given as goal

-- the map that the first commands left, with room for those that are left, whose lines are to come
abbrev pub invariant-loop-command : goal.invariant-loop-command
invariant-loop-command g l = record {
  can_next : (goal.iterator-loop-command g).can_next l.command-iterator;
  is_finite : (goal.iterator-loop-command g).is_finite l.command-iterator;
  text : Completes g.K.Sink.taken g.K.Sink.faults l.initial.out l.out (reply_lines l.initial.map.rows l.fn.commands)
      (reply_lines l.map.rows l.command-iterator);
  ran : (n : ℕ) × (drop n l.fn.commands ≡ l.command-iterator) × (l.map.rows ≡ last l.initial.map.rows (take n l.fn.commands));
  room : HasRoomOf (put_sizes l.command-iterator) l.map;
}
