-- What puts need of a map, so that they take no memory.
use Rattle.zv_map2d.specs.Room.{HasRoomFor, SpendsFor}
use Rattle.zv_map2d.specs.Views.{Map2d}
use Rattle.zv_input.specs.declared.sizes.PutSizes.{PutSizes}

-- the map has room for puts of these sizes
abbrev pub HasRoomOf : PutSizes → Map2d → Type 0
HasRoomOf s m = HasRoomFor 4 4 4 s.keys0 s.keys1 s.values s.puts m

-- a change takes no more room than puts of these sizes
abbrev pub SpendsOf : PutSizes → Map2d → Map2d → Type 0
SpendsOf s before after = SpendsFor 4 4 4 s.keys0 s.keys1 s.values s.puts before after
