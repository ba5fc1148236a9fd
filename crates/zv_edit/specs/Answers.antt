-- What an image and commands are answered.
use Rattle.std.specs.Prelude.{◌≡◌, ℕ, List, [], ◌∷◌, ◌++◌, if◌then◌else◌}
use Rattle.std.specs.List.{flat_map}
use Rattle.std.specs.Option.{option_map_or}
use Rattle.zv_map2d.specs.Fits.{fits_texts}
use Rattle.zv_map2d.specs.Image.{by_bytes, canon, Stands}
use Rattle.zv_map.specs.Maps.{look_up}
use Rattle.zv_map2d.specs.Rows.{Rows, find, put, del}
use Rattle.zv_input.specs.declared.command.Command.{Command}
use Rattle.zv_input.specs.declared.command.Command.TheVariants.{Get, Put, Del, Row}
use Rattle.zv_edit.specs.Output.{Reply, some, missing, added, old, too_large, pairs}
use Rattle.zv_edit.specs.Output.{text}
use Rattle.zv_image.specs.Text.{image_line}

-- the reply of a command on a map
abbrev pub reply : Rows → Command → Reply
reply m (Get key0 key1) = option_map_or some (find by_bytes by_bytes m key0 key1) missing
reply m (Put key0 key1 value) =
    if fits_texts m key0 key1 value
    then option_map_or old (find by_bytes by_bytes m key0 key1) added else too_large
reply m (Del key0 key1) = option_map_or old (find by_bytes by_bytes m key0 key1) missing
reply m (Row key0) = option_map_or pairs (look_up by_bytes m key0) missing

-- the map that a command leaves: a value that does not fit changes nothing
abbrev pub next : Rows → Command → Rows
next m (Get key0 key1) = m
next m (Put key0 key1 value) =
    if fits_texts m key0 key1 value then put by_bytes by_bytes m key0 key1 value else m
next m (Del key0 key1) = del by_bytes by_bytes m key0 key1
next m (Row key0) = m

-- the map that commands leave, in order
abbrev pub last : Rows → List Command → Rows
last m [] = m
last m (c ∷ cs) = last (next m c) cs

-- the replies of commands, each on the map that those before it leave
abbrev pub replies : Rows → List Command → List Reply
replies m [] = []
replies m (c ∷ cs) = reply m c ∷ replies (next m c) cs

-- the lines of the replies
abbrev pub reply_lines : Rows → List Command → List ℕ
reply_lines m cs = flat_map text (replies m cs)

-- the lines of the replies, and that of the canonical image of the map that the commands leave
abbrev pub answers : Rows → List Command → List ℕ
answers m cs = reply_lines m cs ++ image_line (canon (last m cs))

-- a text that answers these commands on the map that the image stands for
abbrev pub IsAnswer : List ℕ → List Command → List ℕ → Type 0
IsAnswer image cs text = (m : Rows) × Stands image m × (text ≡ answers m cs)
