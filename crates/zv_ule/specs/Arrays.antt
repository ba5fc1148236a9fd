-- Arrays of values of fixed width.
use Rattle.std.specs.Prelude.{ℕ, List, map}
use Rattle.zv_ule.specs.Chunks.{values_of}

-- the values that bytes are read as, each as it is loaded
abbrev pub read_array : {T U : Type 0} → (U → T) → ℕ → (List ℕ → U) → List ℕ → List T
read_array loaded width value bytes = map loaded (values_of width value bytes)
