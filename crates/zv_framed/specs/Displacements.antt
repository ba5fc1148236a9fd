-- How the displacements of a hash table are read and written.
use Rattle.std.specs.Prelude.{ℕ, ◌++◌, List, take, drop, Option, None}
use Rattle.std.specs.Int.{w32, from_le_bytes}
use Rattle.std.specs.List.{flat_map}
use Rattle.zv_ule.specs.Bytes.{le}
use Rattle.zv_ule.specs.Chunks.{chunks_fault, values_of}
use Rattle.zv_ule.specs.Pairs.{pair_fault}
use Rattle.zv_ule.specs.declared.error.TyName.TheVariants.{Tuple2}
use Rattle.zv_ule.specs.declared.error.UleError.{UleError}

-- the error of bytes that are no displacements: their number is no multiple of eight
abbrev pub displacements_fault : List ℕ → Option UleError
displacements_fault bytes = chunks_fault Tuple2 8 (pair_fault 4 (λ _. None) (λ _. None)) bytes

-- the displacements that bytes are: two numbers of four bytes each, the lowest byte first
abbrev pub displacements_in : List ℕ → List (ℕ × ℕ)
displacements_in bytes =
    values_of 8 (λ b. (from_le_bytes w32 (take 4 b), from_le_bytes w32 (drop 4 b))) bytes

-- the bytes that displacements are
abbrev pub displacements_written : List (ℕ × ℕ) → List ℕ
displacements_written ds = flat_map (λ d. le 4 d.0 ++ le 4 d.1) ds
