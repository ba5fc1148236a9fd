-- What a hasher has taken in.
use Rattle.std.specs.Prelude.{◌≡◌, ℕ, ◌%◌, ◌^◌, nat_le, List, length}
use Rattle.zv_xxhash.specs.Digest.{all_lanes, first_lanes, left_over}
use Rattle.zv_xxhash.specs.declared.hasher.XxHash64.{XxHash64}

-- the hasher has this seed, and all bytes written to it are these
pub record Holds (hasher : XxHash64) (start : ℕ) (written : List ℕ) : Type 0 where
  pub seed : hasher.seed ≡ start
  pub total : hasher.total ≡ length written % 2 ^ 64
  pub striped : hasher.is_striped ≡ nat_le 32 (length written)
  pub lanes : hasher.lanes ≡ all_lanes (first_lanes start) written
  pub kept : hasher.pending ≡ left_over written
