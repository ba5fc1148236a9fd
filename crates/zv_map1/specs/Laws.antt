-- The laws of maps: what is found after a change, and in a map that is made of pairs in any order.
-- Keys are one key where they compare Equal.
use Rattle.std.specs.Prelude.{◌≡◌, false, [], reverse, Option, Some, None, true}
use Rattle.std.specs.Cmp.{IsTotalOrder}
use Rattle.std.specs.List.{AllByRecursion}
use Rattle.std.specs.Ordering.{is_eq}
use Rattle.zv_ule.specs.Kinds.{EqualIsSame}
use Rattle.zv_ule.specs.declared.error.UleError.{UleError}
use Rattle.zv_map1.specs.Appends.{appended, is_above}
use Rattle.zv_map1.specs.Building.{insert_all}
use Rattle.zv_map1.specs.Views.{Bytes, IsElementOf, IsMap, Order, Pairs, insert_entry, keys_of}
use Rattle.zv_map1.specs.Views.{look_up, without_key}

-- the value that was inserted is found
abbrev pub InsertIsFound : Type 0
InsertIsFound = (order : Order) → IsTotalOrder order → (m : Pairs) (k v : Bytes) →
    look_up order (insert_entry order m k v) k ≡ Some v

-- any other key has what it had
abbrev pub InsertLeavesOthers : Type 0
InsertLeavesOthers = (order : Order) → IsTotalOrder order → (m : Pairs) (k v j : Bytes) →
    is_eq (order k j) ≡ false → look_up order (insert_entry order m k v) j ≡ look_up order m j

-- what an insertion leaves is a map
abbrev pub InsertIsMap : Type 0
InsertIsMap = (order : Order) → IsTotalOrder order → (m : Pairs) (k v : Bytes) → IsMap order m →
    IsMap order (insert_entry order m k v)

-- a key that was removed is not found
abbrev pub RemoveIsGone : Type 0
RemoveIsGone = (order : Order) → IsTotalOrder order → (m : Pairs) (k : Bytes) → IsMap order m →
    look_up order (without_key order m k) k ≡ None

-- any other key has what it had
abbrev pub RemoveLeavesOthers : Type 0
RemoveLeavesOthers = (order : Order) → IsTotalOrder order → (m : Pairs) (k j : Bytes) →
    IsMap order m → is_eq (order k j) ≡ false →
    look_up order (without_key order m k) j ≡ look_up order m j

-- what a removal leaves is a map
abbrev pub RemoveIsMap : Type 0
RemoveIsMap = (order : Order) → IsTotalOrder order → (m : Pairs) (k : Bytes) → IsMap order m →
    IsMap order (without_key order m k)

-- what is appended is inserted
abbrev pub AppendInserts : Type 0
AppendInserts = (order : Order) → IsTotalOrder order → (m : Pairs) (k v : Bytes) → IsMap order m →
    is_above order m k ≡ true → appended order m k v ≡ insert_entry order m k v

-- of pairs that are inserted one after another, a key has the last value that was given for it
abbrev pub LastIsKept : Type 0
LastIsKept = (order : Order) → IsTotalOrder order → (ps : Pairs) (k : Bytes) →
    look_up order (insert_all order [] ps) k ≡ look_up order (reverse ps) k

-- what they make is a map
abbrev pub AllIsMap : Type 0
AllIsMap = (order : Order) → IsTotalOrder order → (ps : Pairs) →
    IsMap order (insert_all order [] ps)

-- where elements of the keys' kind that compare Equal are the same bytes, maps in which the same is
-- found are the same
abbrev pub FoundAlike : Type 0
FoundAlike =
    (order : Order) (fault : Bytes → Option UleError)
    → IsTotalOrder order → EqualIsSame fault order
    → (m n : Pairs) → IsMap order m → IsMap order n
    → AllByRecursion (IsElementOf fault) (keys_of m)
    → AllByRecursion (IsElementOf fault) (keys_of n)
    → ((k : Bytes) → IsElementOf fault k → look_up order m k ≡ look_up order n k)
    → m ≡ n
