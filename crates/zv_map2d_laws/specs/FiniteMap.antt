-- A map in two levels is a finite map: what is found after a change, and which maps are the same.
-- Keys are one key where they compare Equal.
use Rattle.std.specs.Prelude.{◌≡◌, ◌&&◌, false, List, [], Option, Some, None}
use Rattle.std.specs.Cmp.{IsTotalOrder}
use Rattle.std.specs.Ordering.{is_eq}
use Rattle.std.specs.declared.cmp.Ordering.{Ordering}
use Rattle.std.specs.declared.cmp.Ordering.TheVariants.{Equal}
use Rattle.std.specs.Option.{option_and_then}
use Rattle.zv_ule.specs.declared.error.UleError.{UleError}
use Rattle.zv_ule.specs.Kinds.{EqualIsSame}
use Rattle.zv_map.specs.Keys.{IsElementOf}
use Rattle.zv_map.specs.Maps.{look_up}
use Rattle.zv_map2d.specs.Appending.{Triple, last_given, put_all}
use Rattle.zv_map2d.specs.Elements.{AreElements}
use Rattle.zv_map2d.specs.Image.{by_bytes}
use Rattle.zv_map2d.specs.Keys.{Bytes}
use Rattle.zv_map2d.specs.Rows.{Rows, IsWell, find, put, del}

-- j0 and j1 are another pair of keys than k0 and k1
abbrev pub IsOther : (Bytes → Bytes → Ordering) → (Bytes → Bytes → Ordering) → Bytes → Bytes →
    Bytes → Bytes → Type 0
IsOther order0 order1 k0 k1 j0 j1 = (is_eq (order0 k0 j0) && is_eq (order1 k1 j1)) ≡ false

-- what a pair of keys has is what the second key has in the row of the first
abbrev pub FoundInRow : Type 0
FoundInRow = (order0 order1 : Bytes → Bytes → Ordering) (m : Rows) (k0 k1 : Bytes) →
    find order0 order1 m k0 k1
    ≡ option_and_then (λ r. look_up order1 r k1) (look_up order0 m k0)

-- the value that was put is found
abbrev pub PutIsFound : Type 0
PutIsFound = (order0 order1 : Bytes → Bytes → Ordering) → IsTotalOrder order0 →
    IsTotalOrder order1 → (m : Rows) (k0 k1 v : Bytes) →
    find order0 order1 (put order0 order1 m k0 k1 v) k0 k1 ≡ Some v

-- any other pair has what it had
abbrev pub PutLeavesOthers : Type 0
PutLeavesOthers = (order0 order1 : Bytes → Bytes → Ordering) → IsTotalOrder order0 →
    IsTotalOrder order1 → (m : Rows) (k0 k1 v j0 j1 : Bytes) → IsOther order0 order1 k0 k1 j0 j1 →
    find order0 order1 (put order0 order1 m k0 k1 v) j0 j1 ≡ find order0 order1 m j0 j1

-- a map that is made of triples has for each pair of keys the last value that was given
abbrev pub KeepsLast : Type 0
KeepsLast = (order0 order1 : Bytes → Bytes → Ordering) → IsTotalOrder order0 →
    IsTotalOrder order1 → (ts : List Triple) (k0 k1 : Bytes) →
    find order0 order1 (put_all order0 order1 [] ts) k0 k1 ≡ last_given order0 order1 ts k0 k1

-- what a put leaves is well formed
abbrev pub PutIsWell : Type 0
PutIsWell = (order0 order1 : Bytes → Bytes → Ordering) → IsTotalOrder order0 → IsTotalOrder order1 →
    (m : Rows) (k0 k1 v : Bytes) → IsWell order0 order1 m →
    IsWell order0 order1 (put order0 order1 m k0 k1 v)

-- a pair that was deleted is not found
abbrev pub DelIsGone : Type 0
DelIsGone = (order0 order1 : Bytes → Bytes → Ordering) → IsTotalOrder order0 → IsTotalOrder order1 →
    (m : Rows) (k0 k1 : Bytes) → IsWell order0 order1 m →
    find order0 order1 (del order0 order1 m k0 k1) k0 k1 ≡ None

-- any other pair has what it had
abbrev pub DelLeavesOthers : Type 0
DelLeavesOthers = (order0 order1 : Bytes → Bytes → Ordering) → IsTotalOrder order0 →
    IsTotalOrder order1 → (m : Rows) (k0 k1 j0 j1 : Bytes) → IsWell order0 order1 m →
    IsOther order0 order1 k0 k1 j0 j1 →
    find order0 order1 (del order0 order1 m k0 k1) j0 j1 ≡ find order0 order1 m j0 j1

-- what a deletion leaves is well formed
abbrev pub DelIsWell : Type 0
DelIsWell = (order0 order1 : Bytes → Bytes → Ordering) → IsTotalOrder order0 → IsTotalOrder order1 →
    (m : Rows) (k0 k1 : Bytes) → IsWell order0 order1 m →
    IsWell order0 order1 (del order0 order1 m k0 k1)

-- texts and byte strings that compare Equal are the same
abbrev pub TextsAreExact : Type 0
TextsAreExact = (a b : Bytes) → by_bytes a b ≡ Equal → a ≡ b

-- where elements of both kinds of keys that compare Equal are the same bytes, well formed maps in
-- which the same is found are the same
abbrev pub FoundAlike : Type 0
FoundAlike =
    (order0 order1 : Bytes → Bytes → Ordering) (fault0 fault1 : Bytes → Option UleError)
    → IsTotalOrder order0 → IsTotalOrder order1
    → EqualIsSame fault0 order0 → EqualIsSame fault1 order1
    → (m n : Rows) → IsWell order0 order1 m → IsWell order0 order1 n
    → AreElements fault0 fault1 m → AreElements fault0 fault1 n
    → ((k0 k1 : Bytes) → IsElementOf fault0 k0 → IsElementOf fault1 k1 →
    find order0 order1 m k0 k1 ≡ find order0 order1 n k0 k1)
    → m ≡ n
