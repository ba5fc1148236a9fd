-- What contracts see of a buffer of bytes.
use Rattle.std.specs.Prelude.{ℕ, List}

-- its bytes, and how many more it takes without memory
pub record Shelved : Type 0 where
  pub bytes : List ℕ
  pub spare : ℕ
