-- What is left of the room for puts.
use Rattle.zv_edit.proofs.Common.{rules, arith, HasRoomOf, all_puts, Map2d, SpendsOf}
use Rattle.zv_input.specs.declared.sizes.PutSizes.{PutSizes}

-- room for more is room for fewer
pub room_for_one : (a b : PutSizes) (m : Map2d) → HasRoomOf (all_puts a b) m → HasRoomOf a m
room_for_one a b m room = search (rules, arith)

-- what one command leaves is room for the others
pub room_for_rest : (a b : PutSizes) (m n : Map2d) → HasRoomOf (all_puts a b) m → SpendsOf a m n → HasRoomOf b n
room_for_rest a b m n room spent = search (rules, arith)
