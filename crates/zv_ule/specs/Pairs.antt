-- Two parts of fixed width, one after the other.
use Rattle.std.specs.Prelude.{ℕ, List, take, drop, Option}
use Rattle.zv_ule.specs.Chunks.{or_fault}
use Rattle.zv_ule.specs.declared.error.UleError.{UleError}

-- the error of the first part, of that width, or else that of the second
abbrev pub pair_fault : ℕ → (List ℕ → Option UleError) → (List ℕ → Option UleError) → List ℕ →
    Option UleError
pair_fault width first second bytes = or_fault (first (take width bytes))
    (second (drop width bytes))

-- the first part, of that width, and the second, each as it is read
abbrev pub read_pair : {A B : Type 0} → ℕ → (List ℕ → A) → (List ℕ → B) → List ℕ → A × B
read_pair width first second bytes = (first (take width bytes), second (drop width bytes))
