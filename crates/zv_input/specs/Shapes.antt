-- Commands whose fields stand as bytes, one after another.
use Rattle.std.specs.Prelude.{ℕ, ◌+◌, List, [], ◌∷◌, take, drop, sum_by}
use Rattle.zv_input.specs.declared.command.Command.{Command}
use Rattle.zv_input.specs.declared.command.Command.TheVariants.{Get, Put, Del, Row}
use Rattle.zv_input.specs.declared.shape.Shape.{Shape}

-- how many bytes the fields of a command have together
abbrev pub shape_size : Shape → ℕ
shape_size (Shape.Get key0 key1) = key0 + key1
shape_size (Shape.Put key0 key1 value) = key0 + key1 + value
shape_size (Shape.Del key0 key1) = key0 + key1
shape_size (Shape.Row key0) = key0

-- the command whose fields stand at the front of bytes
abbrev pub command_at : Shape → List ℕ → Command
command_at (Shape.Get key0 key1) bytes = Get (take key0 bytes) (take key1 (drop key0 bytes))
command_at (Shape.Put key0 key1 value) bytes =
    Put (take key0 bytes) (take key1 (drop key0 bytes)) (take value (drop (key0 + key1) bytes))
command_at (Shape.Del key0 key1) bytes = Del (take key0 bytes) (take key1 (drop key0 bytes))
command_at (Shape.Row key0) bytes = Row (take key0 bytes)

-- the commands whose fields do, one after another
abbrev pub commands_at : List Shape → List ℕ → List Command
commands_at [] bytes = []
commands_at (s ∷ shapes) bytes = command_at s bytes ∷ commands_at shapes (drop (shape_size s) bytes)

-- how many bytes the fields of all commands have
abbrev pub fields_size : List Shape → ℕ
fields_size shapes = sum_by shape_size shapes
