use Rattle.zv_map2d.proofs.Rooms.{first_room, owned_after, ready_after, second_room}
use Rattle.zv_map2d.proofs.laws.room.Goals as goal

pub returns : goal.returns
returns c = record { first = first_room; second = second_room; owned = owned_after; ready = ready_after }
