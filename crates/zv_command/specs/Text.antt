-- Lines that are written.
use Rattle.std.specs.Prelude.{ℕ, List, [], ◌∷◌, ◌++◌, codes}
use Rattle.std.specs.Fmt.{decimal}
use Rattle.hex.specs.Hex.{encode_lower}

-- bytes as a field: `x` and their hex digits in lower case
abbrev pub hex_field : List ℕ → List ℕ
hex_field bytes = codes "x" ++ encode_lower bytes

-- a text and LF
abbrev pub line : List ℕ → List ℕ
line text = text ++ 10 ∷ []

-- the line that names the first bad line
abbrev pub bad_line : ℕ → List ℕ
bad_line number = line (codes "error line " ++ decimal number)
