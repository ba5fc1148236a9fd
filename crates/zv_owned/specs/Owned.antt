-- What contracts see of an owned vector, and when a change is refused.
use Rattle.std.specs.Prelude.{◌≡◌, ℕ, ◌+◌, ◌-◌, List, length, Bool, true, false, Result, Ok, Err}
use Rattle.zv_owned.specs.declared.error.VecError.{VecError}
use Rattle.zv_owned.specs.declared.error.VecError.TheVariants.{TooLarge, Memory}

-- the byte strings of its elements, its own bytes, and how many more bytes its memory holds
pub record Owned : Type 0 where
  pub list : List (List ℕ)
  pub bytes : List ℕ
  pub spare : ℕ

-- the bytes lie in the memory that there was, where they fit: the spare is what they leave of it
abbrev pub KeepsMemory : Owned → Owned → Type 0
KeepsMemory old new = new.spare ≡ length old.bytes + old.spare - length new.bytes

-- a change that the size rule takes is refused only where an allocation fails, and any other as too
-- large
abbrev pub TooLargeUnless : {A : Type 0} → Bool → Result A VecError → Type 0
TooLargeUnless taken (Ok v) = taken ≡ true
TooLargeUnless taken (Err TooLarge) = taken ≡ false
TooLargeUnless taken (Err Memory) = taken ≡ true
