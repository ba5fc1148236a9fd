-- The size rule: which changes a list in a format takes. w is the width of a field in bytes.
use Rattle.std.specs.Prelude.{ℕ, ◌+◌, ◌-◌, ◌^◌, Bool, true, ◌&&◌, ◌||◌, nat_lt, nat_le}
use Rattle.std.specs.Prelude.{List, [], ◌∷◌, ◌++◌, length}
use Rattle.zv_var.specs.Format.{enc}

-- the most that a field holds
abbrev pub max_of : ℕ → ℕ
max_of w = 256 ^ w - 1

-- how many bytes the list is written as
abbrev pub size : ℕ → List (List ℕ) → ℕ
size w xs = length (enc w xs)

-- an element of n bytes may join the list: n is below what a field holds, and a list that isn't
-- empty stays within that
abbrev pub takes_insert : ℕ → List (List ℕ) → ℕ → Bool
takes_insert w [] n = nat_lt n (max_of w)
takes_insert w (x ∷ xs) n = nat_lt n (max_of w) && nat_le (size w (x ∷ xs) + n + w) (max_of w)

-- an element of n bytes may stand in place of one of old bytes: n is below what a field holds, and
-- the list doesn't grow or stays within that
abbrev pub takes_replace : ℕ → List (List ℕ) → ℕ → ℕ → Bool
takes_replace w xs old n = nat_lt n (max_of w) &&
    (nat_le n old || nat_le (size w xs + n) (max_of w + old))

-- by a rule for one element, the elements es may join the list one after another, each at its end
abbrev pub takes_pushes : (List (List ℕ) → ℕ → Bool) → List (List ℕ) → List (List ℕ) → Bool
takes_pushes takes xs [] = true
takes_pushes takes xs (e ∷ es) = takes xs (length e) && takes_pushes takes (xs ++ (e ∷ [])) es
