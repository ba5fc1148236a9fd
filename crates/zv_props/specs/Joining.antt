-- A row before others, where two that touch and have one value become one.
use Rattle.std.specs.Prelude.{◌+◌, ◌==◌, ◌&&◌, Bool, List, [], ◌∷◌, if◌then◌else◌}
use Rattle.zv_props.specs.Tables.{Row}

-- the second row begins right behind the first, with its value
abbrev pub touch : Row → Row → Bool
touch r s = s.0 == r.1 + 1 && s.2 == r.2

-- the row before the others
abbrev pub add : Row → List Row → List Row
add r [] = r ∷ []
add r (s ∷ rows) = if touch r s then (r.0, s.1, r.2) ∷ rows else r ∷ s ∷ rows
