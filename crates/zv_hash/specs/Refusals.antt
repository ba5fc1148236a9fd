-- Why hashes have no placement.
use Rattle.std.specs.Prelude.{ℕ, ◌<◌, ◌≤◌, ◌^◌, List, length}
use Rattle.zv_hash.specs.Placement.{IsStuck}
use Rattle.zv_hash.specs.declared.error.HashError.{HashError}
use Rattle.zv_hash.specs.declared.error.HashError.TheVariants.{TooMany, TooLarge, Repeated}
use Rattle.zv_hash.specs.declared.error.HashError.TheVariants.{NoPlace, Memory}

-- there are too many hashes; or there are not, and a bucket has no displacement, or no memory was
-- given
abbrev pub IsRefusal : List ℕ → HashError → Type 0
IsRefusal hs TooMany = 2 ^ 32 ≤ length hs
IsRefusal hs TooLarge = ⊥
IsRefusal hs (Repeated first second) = ⊥
IsRefusal hs (NoPlace bucket) = (length hs < 2 ^ 32) × IsStuck hs bucket
IsRefusal hs Memory = length hs < 2 ^ 32
