-- The slots of one hash by displacements that differ in their second number.
use Rattle.std.specs.Prelude.{◌≡◌, ℕ, ◌+◌, ◌^◌, ◌%◌}
use Rattle.zv_hash.specs.Splitting.{slot_of}
use Rattle.zv_hash.specs.declared.row.Row.{Row}

-- the slot on a row, by the second number
abbrev pub slot_on : Row → ℕ → ℕ
slot_on r second = (r.base + second) % 2 ^ 32 % r.slots

-- the row of a hash with the parts f, by the first number
pub record IsRowOf (r : Row) (slots first : ℕ) (f : ℕ × ℕ) : Type 0 where
  pub count : r.slots ≡ slots
  pub sends : (second : ℕ) → slot_on r second ≡ slot_of slots (first, second) f
