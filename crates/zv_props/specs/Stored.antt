-- Tables as they are stored: ten bytes a row.
use Rattle.std.specs.Prelude.{ℕ, ◌<◌, ◌^◌, List, ◌++◌, take, drop, flat_map, Option}
use Rattle.std.specs.Int.{w16, w32, from_le_bytes, to_le_bytes}
use Rattle.zv_ule.specs.Chunks.{chunks_fault, values_of}
use Rattle.zv_ule.specs.Pairs.{pair_fault}
use Rattle.zv_ule.specs.declared.error.TyName.TheVariants.{Tuple3}
use Rattle.zv_ule.specs.declared.error.UleError.{UleError}
use Rattle.std.specs.declared.option.Option.TheVariants.{None}
use Rattle.zv_props.specs.Tables.{Row}

-- a row's bytes: both code points in four bytes and the value in two, the lowest byte first
abbrev pub chunk : Row → List ℕ
chunk r = to_le_bytes w32 r.0 ++ (to_le_bytes w32 r.1 ++ to_le_bytes w16 r.2)

-- the row that ten bytes are
abbrev pub row : List ℕ → Row
row b = (
  from_le_bytes w32 (take 4 b),
  from_le_bytes w32 (take 4 (drop 4 b)),
  from_le_bytes w16 (drop 4 (drop 4 b)),
)

-- the bytes of a table
abbrev pub table_bytes : List Row → List ℕ
table_bytes rows = flat_map chunk rows

-- the rows that bytes are
abbrev pub rows_of : List ℕ → List Row
rows_of bytes = values_of 10 row bytes

-- any ten bytes are a row
abbrev pub chunk_fault : List ℕ → Option UleError
chunk_fault = pair_fault 4 (λ _. None) (pair_fault 4 (λ _. None) (λ _. None))

-- the error of bytes that are no rows: their number is no multiple of ten
abbrev pub list_fault : List ℕ → Option UleError
list_fault bytes = chunks_fault Tuple3 10 chunk_fault bytes

-- a row fits into its bytes
abbrev pub IsStored : Row → Type 0
IsStored r = (r.0 < 2 ^ 32) × ((r.1 < 2 ^ 32) × (r.2 < 2 ^ 16))
