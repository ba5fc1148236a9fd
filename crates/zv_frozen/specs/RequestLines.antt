-- The lines of a frozen image, and of what is refused.
use Rattle.std.specs.Prelude.{ℕ, List, ◌++◌, codes}
use Rattle.std.specs.Fmt.{decimal}
use Rattle.zv_command.specs.Text.{hex_field, line}
use Rattle.zv_frozen.specs.declared.error.FrozenError.{FrozenError}
use Rattle.zv_frozen.specs.declared.error.FrozenError.TheVariants.{Frame, Part, Count, Key, Lies}

-- the line of a frozen image
abbrev pub frozen_line : List ℕ → List ℕ
frozen_line bytes = line (codes "frozen " ++ hex_field bytes)

-- the line of lists that are too large, and that of a bucket without a displacement
abbrev pub too_large_line : List ℕ
too_large_line = line (codes "error toolarge")

abbrev pub no_place_line : ℕ → List ℕ
no_place_line bucket = line (codes "error noplace " ++ decimal bucket)

-- the line of bytes that are no frozen image
abbrev pub fault_line : FrozenError → List ℕ
fault_line Frame = line (codes "error frame")
fault_line (Part e) = line (codes "error part")
fault_line Count = line (codes "error count")
fault_line (Key place) = line (codes "error key " ++ decimal place)
fault_line Lies = line (codes "error lies")
