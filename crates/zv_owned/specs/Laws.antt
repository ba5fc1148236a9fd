-- Laws of the size rule. w is the width of a field in bytes.
use Rattle.std.specs.Prelude.{◌≡◌, ℕ, ◌^◌, ◌<◌, ◌≤◌, true, List, [], length, set, slice_index_or}
use Rattle.std.specs.Prelude.{IsPermutation}
use Rattle.std.specs.List.{insert, remove}
use Rattle.zv_var.specs.Format.{codable}
use Rattle.zv_owned.specs.Size.{max_of, takes_insert, takes_pushes, takes_replace}

-- a list that took an element can be written
abbrev pub InsertKeeps : Type 0
InsertKeeps = (w : ℕ) → 0 < w → 256 ^ w ≤ 2 ^ 32 → (xs : List (List ℕ)) (i : ℕ) (e : List ℕ) →
    codable w xs ≡ true → takes_insert w xs (length e) ≡ true → i ≤ length xs →
    codable w (insert xs i e) ≡ true

-- a list that took an element in place of another can be written
abbrev pub ReplaceKeeps : Type 0
ReplaceKeeps = (w : ℕ) → 0 < w → 256 ^ w ≤ 2 ^ 32 → (xs : List (List ℕ)) (i : ℕ) (e : List ℕ) →
    codable w xs ≡ true → i < length xs →
    takes_replace w xs (length (slice_index_or xs i [])) (length e) ≡ true →
    codable w (set xs i e) ≡ true

-- a list without one of its elements can be written
abbrev pub RemoveKeeps : Type 0
RemoveKeeps = (w : ℕ) → 0 < w → 256 ^ w ≤ 2 ^ 32 → (xs : List (List ℕ)) (i : ℕ) →
    codable w xs ≡ true → codable w (remove xs i) ≡ true

-- an element that is no longer than the one it replaces, and below what a field holds, is taken
abbrev pub ShorterIsTaken : Type 0
ShorterIsTaken = (w : ℕ) (xs : List (List ℕ)) (old n : ℕ) → n ≤ old → n < max_of w →
    takes_replace w xs old n ≡ true

-- where the empty list takes elements one after another, it takes them in any other order
abbrev pub AnyOrder : Type 0
AnyOrder = (w : ℕ) → 0 < w → 256 ^ w ≤ 2 ^ 32 → (xs ys : List (List ℕ)) → IsPermutation xs ys →
    takes_pushes (takes_insert w) [] xs ≡ true → takes_pushes (takes_insert w) [] ys ≡ true
