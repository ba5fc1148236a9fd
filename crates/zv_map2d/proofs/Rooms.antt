-- Room for puts, one after another.
use Rattle.std.proofs.Common.{rules, arith}
use Rattle.zv_map2d.specs.Laws.{LeavesOwned, LeavesReady, RoomForFirst, RoomForSecond}

pub first_room : RoomForFirst
first_room w0 w1 w2 a0 a1 a2 b0 b1 b2 m room = search (rules, arith)

pub second_room : RoomForSecond
second_room w0 w1 w2 a0 a1 a2 b0 b1 b2 m n room spent = search (rules, arith)

pub owned_after : LeavesOwned
owned_after w0 w1 w2 b0 b1 b2 puts m n spent =
    record { keys0 = spent.keys0.owned; joiner = spent.joiner.owned; keys1 = spent.keys1.owned; values = spent.values.owned }

pub ready_after : LeavesReady
ready_after w0 w1 w2 b0 b1 b2 puts m n ready spent = record {
  keys0 = spent.stays.keys0.ready ready.keys0;
  joiner = spent.stays.joiner.ready ready.joiner;
  keys1 = spent.stays.keys1.ready ready.keys1;
  values = spent.stays.values.ready ready.values;
}
