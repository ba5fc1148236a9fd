-- How many puts there are among commands, and how long their elements are together.
use Rattle.std.specs.Prelude.{ℕ, ◌+◌, List, [], ◌∷◌, length}
use Rattle.zv_input.specs.declared.command.Command.{Command}
use Rattle.zv_input.specs.declared.command.Command.TheVariants.{Get, Put, Del, Row}
use Rattle.zv_input.specs.declared.sizes.PutSizes.{PutSizes}

-- of no puts
abbrev pub no_puts : PutSizes
no_puts = record { keys0 = 0; keys1 = 0; values = 0; puts = 0 }

-- of the puts of both
abbrev pub all_puts : PutSizes → PutSizes → PutSizes
all_puts a b = record {
  keys0 = a.keys0 + b.keys0;
  keys1 = a.keys1 + b.keys1;
  values = a.values + b.values;
  puts = a.puts + b.puts;
}

-- how much they are together
abbrev pub total_of : PutSizes → ℕ
total_of s = s.keys0 + s.keys1 + s.values + s.puts

-- of a command: the lengths of a put's elements
abbrev pub sizes_of : Command → PutSizes
sizes_of (Get key0 key1) = no_puts
sizes_of (Put key0 key1 value) = record {
  keys0 = length key0;
  keys1 = length key1;
  values = length value;
  puts = 1;
}
sizes_of (Del key0 key1) = no_puts
sizes_of (Row key0) = no_puts

-- of commands
abbrev pub put_sizes : List Command → PutSizes
put_sizes [] = no_puts
put_sizes (c ∷ cs) = all_puts (sizes_of c) (put_sizes cs)
