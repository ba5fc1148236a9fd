-- Commands that are looked at where they stand.
use Rattle.zv_input.specs.declared.command.Command.{Command}
use Rattle.zv_input.specs.declared.command.Command.TheVariants.{Get, Put, Del, Row}
use Rattle.zv_input.specs.declared.command.CommandRef.{CommandRef}

-- the command that is looked at
abbrev pub as_command : CommandRef → Command
as_command (CommandRef.Get key0 key1) = Get key0.now key1.now
as_command (CommandRef.Put key0 key1 value) = Put key0.now key1.now value.now
as_command (CommandRef.Del key0 key1) = Del key0.now key1.now
as_command (CommandRef.Row key0) = Row key0.now
