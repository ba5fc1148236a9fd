-- What a read and a write do: when they may fail, and what a sink has taken then.
use Rattle.std.specs.Prelude.{ℕ, ◌≡◌, ◌+◌, ◌-◌, ◌^◌, ◌≤◌, min, List, take}
use Rattle.std.specs.Prelude.{Result, OnErr, OnOk, MatchResult}
use Rattle.std.specs.declared.option.Option.{Option}
use Rattle.std.specs.Io.KnownBytes.{Appends}

-- The count rose, or stands at the last value of a u64.
abbrev pub Rose : ℕ → ℕ → Type 0
Rose before now = min (before + 1) (2 ^ 64 - 1) ≤ now

-- The count has not fallen; it rose where there is an error, and only there.
pub record HasCause {T E : Type 0} (before now : ℕ) (result : Result T E) : Type 0 where
  pub later : before ≤ now
  pub stays : OnOk result (now ≡ before)
  pub failed : OnErr result (Rose before now)

-- Known bytes grow by the first of these bytes, however many.
abbrev pub AppendsPrefix : Option (List ℕ) → Option (List ℕ) → List ℕ → Type 0
AppendsPrefix old new bytes = (n : ℕ) × Appends old new (take n bytes)

-- Ok: all of the piece was taken. Err: a prefix of it.
abbrev pub Takes : {T E : Type 0} → Option (List ℕ) → Option (List ℕ) → Result T E → List ℕ → Type 0
Takes old new result piece =
    MatchResult result (λ _. Appends old new piece) (λ _. AppendsPrefix old new piece)

-- A text that P has was taken whole.
abbrev pub Written : (List ℕ → Type 0) → Option (List ℕ) → Option (List ℕ) → Type 0
Written P old new = (text : List ℕ) × P text × Appends old new text

-- A prefix of a text that P has was taken.
abbrev pub CutShort : (List ℕ → Type 0) → Option (List ℕ) → Option (List ℕ) → Type 0
CutShort P old new = (text : List ℕ) × P text × AppendsPrefix old new text
