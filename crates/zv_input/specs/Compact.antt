-- The bytes of a key or a value, as they are kept.
use Rattle.std.specs.Prelude.{ℕ, ◌≤◌, List, take}
use Rattle.zv_input.specs.declared.compact.Stored.{Stored}
use Rattle.zv_input.specs.declared.compact.Stored.TheVariants.{Few, Many}

-- the bytes that are kept
abbrev pub stored_bytes : Stored → List ℕ
stored_bytes (Few len bytes) = take len bytes
stored_bytes (Many bytes) = bytes.value.items

-- A length in place is within its array.
abbrev pub IsSound : Stored → Type 0
IsSound (Few len bytes) = len ≤ 12
IsSound (Many bytes) = Unit {0}
