-- What values are written as, as a list. w is the width of a field in bytes.
use Rattle.std.specs.Prelude.{ℕ, ◌+◌, ◌-◌, ◌^◌, Bool, ◌&&◌, nat_lt, List, ◌++◌, length, map, Option}
use Rattle.std.specs.Prelude.{Some, None, if◌then◌else◌}
use Rattle.std.specs.List.{concat, flat_map, list_all}
use Rattle.std.specs.Option.{option_and_then}
use Rattle.zv_ule.specs.Bytes.{le}
use Rattle.zv_var.specs.Format.{starts}

-- the starts and the elements' bytes
abbrev pub lengthless : ℕ → List (List ℕ) → List ℕ
lengthless w xs = flat_map (le w) (starts xs) ++ concat xs

-- these after the count, which is 0 where there is no element
abbrev pub serialized : ℕ → List (List ℕ) → List ℕ
serialized w xs = le w (length xs) ++ lengthless w xs

-- n and w more, unless that is 2^32 or more
abbrev pub with_count : ℕ → ℕ → Option ℕ
with_count w n = if nat_lt (n + w) (2 ^ 32) then Some (n + w) else None

module _ {A : Type 0} (fits : A → Bool) (spelling : A → List ℕ) where
  -- how many bytes the starts and the spellings of values have, where each value has a spelling and
  -- they are fewer than the largest number of a field
  abbrev pub lengthless_len : ℕ → List A → Option ℕ
  lengthless_len w xs =
      if list_all fits xs && nat_lt (length (lengthless w (map spelling xs))) (256 ^ w - 1)
      then Some (length (lengthless w (map spelling xs))) else None

  -- and how many with the count
  abbrev pub serialized_len : ℕ → List A → Option ℕ
  serialized_len w xs = option_and_then (with_count w) (lengthless_len w xs)
