-- Puts and removals in room that was made before.
use Rattle.std.specs.Prelude.{ℕ, ◌+◌}
use Rattle.zv_map2d.specs.Room.{HasRoomFor, IsOwned, IsReady, SpendsFor}
use Rattle.zv_map2d.specs.Views.{Map2d}

-- room for two puts is room for the first
abbrev pub RoomForFirst : Type 0
RoomForFirst = (w0 w1 w2 a0 a1 a2 b0 b1 b2 : ℕ) (m : Map2d) →
    HasRoomFor w0 w1 w2 (a0 + b0) (a1 + b1) (a2 + b2) 2 m → HasRoomFor w0 w1 w2 a0 a1 a2 1 m

-- and what that one leaves is room for the second
abbrev pub RoomForSecond : Type 0
RoomForSecond = (w0 w1 w2 a0 a1 a2 b0 b1 b2 : ℕ) (m n : Map2d) →
    HasRoomFor w0 w1 w2 (a0 + b0) (a1 + b1) (a2 + b2) 2 m →
    SpendsFor w0 w1 w2 a0 a1 a2 1 m n → HasRoomFor w0 w1 w2 b0 b1 b2 1 n

-- a change that says what it spends leaves a map that owns its vectors
abbrev pub LeavesOwned : Type 0
LeavesOwned = (w0 w1 w2 b0 b1 b2 puts : ℕ) (m n : Map2d) →
    SpendsFor w0 w1 w2 b0 b1 b2 puts m n → IsOwned n

-- and a map that is ready ready
abbrev pub LeavesReady : Type 0
LeavesReady = (w0 w1 w2 b0 b1 b2 puts : ℕ) (m n : Map2d) → IsReady m →
    SpendsFor w0 w1 w2 b0 b1 b2 puts m n → IsReady n
