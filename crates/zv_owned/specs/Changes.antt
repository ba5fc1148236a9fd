-- Changes of a list at a place. f is what is written for a value, and w is the width of a field in
-- bytes.
use Rattle.std.specs.Prelude.{◌≡◌, ⊤, ℕ, ◌+◌, ◌-◌, ◌^◌, ◌<◌, ◌≤◌, ◌==◌, Bool, true, List, []}
use Rattle.std.specs.Prelude.{length, set, slice_index_or, if◌then◌else◌, Option, Some, None}
use Rattle.std.specs.Prelude.{Result, Ok, Err}
use Rattle.std.specs.Borrow.{Bor}
use Rattle.std.specs.List.{insert, remove}
use Rattle.zv_ule.specs.declared.error.UleError.{UleError}
use Rattle.zv_var.specs.Format.{elements, enc, list_fault}
use Rattle.zv_owned.specs.Size.{takes_insert, takes_replace}
use Rattle.zv_owned.specs.Splices.{most_steps}
use Rattle.zv_owned.specs.declared.error.VecError.{VecError}
use Rattle.zv_owned.specs.declared.error.VecError.TheVariants.{TooLarge, Memory}
use Rattle.zv_owned.specs.declared.change.Change.{Change}
use Rattle.zv_owned.specs.declared.change.Change.TheVariants.{Insert, Replace, Remove}

-- it is said where an allocation fails
abbrev pub OnMemory : {A : Type 0} → Result A VecError → Type 0 → Type 0
OnMemory (Ok v) P = ⊤
OnMemory (Err TooLarge) P = ⊤
OnMemory (Err Memory) P = P

-- the value has what is written for it
abbrev pub fits_change : {A : Type 0} → (A → Bool) → Change A → Bool
fits_change fits (Insert a) = fits a.now
fits_change fits (Replace a) = fits a.now
fits_change fits Remove = true

-- how many elements go
abbrev pub gone_of : {A : Type 0} → Change A → ℕ
gone_of (Insert a) = 0
gone_of (Replace a) = 1
gone_of Remove = 1

-- the value that comes, if one does
abbrev pub value_of : {A : Type 0} → Change A → Option (Bor A)
value_of (Insert a) = Some a
value_of (Replace a) = Some a
value_of Remove = None

module _ {A : Type 0} (f : A → List ℕ) where
  -- the list after the change
  abbrev pub changed : Change A → List (List ℕ) → ℕ → List (List ℕ)
  changed (Insert a) xs i = insert xs i (f a.now)
  changed (Replace a) xs i = set xs i (f a.now)
  changed Remove xs i = remove xs i

  -- a list of n elements has the place
  abbrev pub HasPlace : Change A → ℕ → ℕ → Type 0
  HasPlace (Insert a) n i = i ≤ n
  HasPlace (Replace a) n i = i < n
  HasPlace Remove n i = i < n

  -- what is written is below 2^64 bytes
  abbrev pub IsBelow : Change A → Type 0
  IsBelow (Insert a) = length (f a.now) < 2 ^ 64
  IsBelow (Replace a) = length (f a.now) < 2 ^ 64
  IsBelow Remove = ⊤

  -- the size rule takes it
  abbrev pub takes_change : ℕ → Change A → List (List ℕ) → ℕ → Bool
  takes_change w (Insert a) xs i = takes_insert w xs (length (f a.now))
  takes_change w (Replace a) xs i =
      takes_replace w xs (length (slice_index_or xs i [])) (length (f a.now))
  takes_change w Remove xs i = true

  -- how many bytes longer it makes the encoding at most
  abbrev pub growth : ℕ → Change A → ℕ
  growth w (Insert a) = length (f a.now) + w
  growth w (Replace a) = length (f a.now)
  growth w Remove = 0

  -- the most steps that it takes, in a list of `long` bytes: as many as the new element has bytes
  -- where it replaces one of the same length
  abbrev pub change_steps : ℕ → Change A → List (List ℕ) → ℕ → ℕ → ℕ
  change_steps w (Insert a) xs long i = most_steps w (length xs) long i 0 (Some (length (f a.now)))
  change_steps w (Replace a) xs long i =
      if length (f a.now) == length (slice_index_or xs i []) then length (f a.now)
      else most_steps w (length xs) long i 1 (Some (length (f a.now)))
  change_steps w Remove xs long i = most_steps w (length xs) long i 1 None

-- The list xs was changed at place i. The old bytes had a spare, and the new ones have one; t is
-- how many steps there were before, and u how many there are.
pub record IsChanged {A : Type 0} (f : A → List ℕ) (w : ℕ) (K : List ℕ → Option UleError)
    (c : Change A) (xs : List (List ℕ)) (i : ℕ) (old : List ℕ) (old_spare : ℕ) (bytes : List ℕ)
    (spare t u : ℕ) : Type 0 where
  pub is : bytes ≡ enc w (changed f c xs i)
  pub list : elements w bytes ≡ changed f c xs i
  pub sound : list_fault w K bytes ≡ None
  pub memory : spare ≡ length old + old_spare - length bytes
  pub grown : length bytes ≤ length old + growth f w c
  pub steps : u ≤ t + change_steps f w c xs (length old) i
