-- Changes of a list that take no memory.
use Rattle.std.specs.Prelude.{◌≡◌, ℕ, ◌<◌, ◌≤◌, Bool, true, false, List, set}
use Rattle.std.specs.List.{insert}

-- a container owns its bytes, and can grow by n of them without memory
pub record HasRoom (owns : Bool) (room n : ℕ) : Type 0 where
  pub owned : owns ≡ true
  pub spare : n ≤ room

-- the size rule says yes
pub record IsTaken (takes : Bool) : Type 0 where
  pub taken : takes ≡ true

-- an element may be put at place i of n: in the place of another, or before one or at the end
abbrev pub HasPlace : Bool → ℕ → ℕ → Type 0
HasPlace true n i = i < n
HasPlace false n i = i ≤ n

-- the list with x at place i
abbrev pub put_at : {A : Type 0} → Bool → List A → ℕ → A → List A
put_at true xs i x = set xs i x
put_at false xs i x = insert xs i x

-- the list takes an element of n bytes there, by its two rules
abbrev pub takes_put : (List (List ℕ) → ℕ → Bool) → (List (List ℕ) → ℕ → ℕ → Bool) →
    Bool → List (List ℕ) → ℕ → ℕ → Bool
takes_put inserts replaces true xs i n = replaces xs i n
takes_put inserts replaces false xs i n = inserts xs n
