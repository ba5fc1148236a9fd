-- What a vector of values of one width stands for.
use Rattle.std.specs.Prelude.{◌≡◌, ℕ, ◌+◌, List, length, Bool, true}

-- the values, the bytes that they lie in, how many more bytes fit without new memory, and whether
-- the bytes are owned
pub record Vector (T : Type 0) : Type 0 where
  pub values : List T
  pub bytes : List ℕ
  pub spare : ℕ
  pub owned : Bool

-- a list that owns its bytes lies in as much memory as before
abbrev pub KeepsMemory : {T : Type 0} → Vector T → Vector T → Type 0
KeepsMemory old new = old.owned ≡ true →
    length new.bytes + new.spare ≡ length old.bytes + old.spare
