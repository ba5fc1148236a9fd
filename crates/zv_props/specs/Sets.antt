-- Ranges that may be set.
use Rattle.std.specs.Prelude.{◌&&◌, Bool, not, nat_le}
use Rattle.zv_props.specs.Tables.{Row, max_code_point}

-- the range has no code point or ends above the largest one
abbrev pub is_bad : Row → Bool
is_bad r = not (nat_le r.0 r.1 && nat_le r.1 max_code_point)
