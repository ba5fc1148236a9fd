-- A hash in three parts, and where a displacement sends it.
use Rattle.std.specs.Prelude.{ℕ, ◌+◌, ◌*◌, ◌/◌, ◌%◌, ◌^◌, ◌==◌, ◌&&◌, ◌||◌}
use Rattle.std.specs.Prelude.{Option, Some, None, if◌then◌else◌}

-- the bucket of a hash, one of m: its high 16 bits modulo m
unfoldable pub bucket_of : ℕ → ℕ → ℕ
bucket_of m hash = hash / 2 ^ 48 % m

-- the 24 bits in the middle and the low 24 bits
abbrev pub parts : ℕ → ℕ × ℕ
parts hash = (hash / 2 ^ 24 % 2 ^ 24, hash % 2 ^ 24)

-- the bucket and both parts
abbrev pub split : ℕ → ℕ → ℕ × ℕ × ℕ
split hash m = (bucket_of m hash, (parts hash).0, (parts hash).1)

-- the slot, one of m, that a displacement sends a hash with these parts to
unfoldable pub slot_of : ℕ → ℕ × ℕ → ℕ × ℕ → ℕ
slot_of m d f = (f.1 * d.0 + f.0 + d.1) % 2 ^ 32 % m

-- the same, where there are slots and the displacement is one
abbrev pub index : ℕ × ℕ → ℕ × ℕ → ℕ → Option ℕ
index f d m = if (d.0 == 0 && d.1 == 0) || m == 0 then None else Some (slot_of m d f)
