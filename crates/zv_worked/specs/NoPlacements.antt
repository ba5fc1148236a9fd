-- Worked causes for which hashes have no placement, and pairs no table.
use Rattle.std.specs.Prelude.{◌≡◌, ℕ, ◌^◌, ◌-◌, Bool, true, false, List, [], ◌∷◌, ◌++◌}
use Rattle.std.specs.Prelude.{length}
use Rattle.std.specs.Cmp.Lexicographic.{slice_cmp}
use Rattle.std.specs.Ordering.{nat_cmp}
use Rattle.zv_hash.specs.Refusals.{IsRefusal}
use Rattle.zv_hash.specs.declared.error.HashError.{HashError}
use Rattle.zv_hash.specs.declared.error.HashError.TheVariants.{TooMany, TooLarge, Repeated}
use Rattle.zv_hash.specs.declared.error.HashError.TheVariants.{NoPlace, Memory}
use Rattle.zv_hashmap.specs.Building.{IsNoTable}
use Rattle.zv_map.specs.Keys.{Bytes}

-- two equal hashes never part: their bucket is stuck
abbrev pub EqualHaveNoPlace : Type 0
EqualHaveNoPlace = IsRefusal (5 ∷ 5 ∷ []) (NoPlace 0)

-- and not the other bucket, which has no hash
abbrev pub OtherBucketIsNotStuck : Type 0
OtherBucketIsNotStuck = IsRefusal (5 ∷ 5 ∷ []) (NoPlace 1) → ⊥

-- one hash has a place
abbrev pub OneHasPlace : Type 0
OneHasPlace = (bucket : ℕ) → IsRefusal (7 ∷ []) (NoPlace bucket) → ⊥

-- 2^32 hashes are too many
abbrev pub ManyAreTooMany : Type 0
ManyAreTooMany = (hashes : List ℕ) → length hashes ≡ 2 ^ 32 → IsRefusal hashes TooMany

-- before a bucket is stuck
abbrev pub ManyBeforeStuck : Type 0
ManyBeforeStuck = (hashes : List ℕ) (bucket : ℕ) → length hashes ≡ 2 ^ 32
    → IsRefusal hashes (NoPlace bucket) → ⊥

-- and they ask for no memory before they are refused
abbrev pub ManyWantNoMemory : Type 0
ManyWantNoMemory = (hashes : List ℕ) → length hashes ≡ 2 ^ 32 → IsRefusal hashes Memory → ⊥

-- one less is not too many
abbrev pub MostAreNotTooMany : Type 0
MostAreNotTooMany = (hashes : List ℕ) → length hashes ≡ 2 ^ 32 - 1 → IsRefusal hashes TooMany → ⊥

-- but memory may be wanted
abbrev pub MostMayWantMemory : Type 0
MostMayWantMemory = (hashes : List ℕ) → length hashes ≡ 2 ^ 32 - 1 → IsRefusal hashes Memory

-- hashes are never too large
abbrev pub HashesAreNotTooLarge : Type 0
HashesAreNotTooLarge = (hashes : List ℕ) → IsRefusal hashes TooLarge → ⊥

-- nor refused as repeated, also where they are equal
abbrev pub HashesAreNotRepeated : Type 0
HashesAreNotRepeated = (hashes : List ℕ) (first second : ℕ)
    → IsRefusal hashes (Repeated first second) → ⊥

-- why pairs have no table, where a key's own bytes are hashed
abbrev pub NoTableOf : List (Bytes × Bytes) → Bool → HashError → Type 0
NoTableOf pairs fits error = IsNoTable (slice_cmp nat_cmp) (λ key. key) fits pairs error

-- the keys 1 and 2
abbrev pub two_keys : List (Bytes × Bytes)
two_keys = (1 ∷ [], []) ∷ (2 ∷ [], []) ∷ []

-- and both again
abbrev pub two_keys_twice : List (Bytes × Bytes)
two_keys_twice = two_keys ++ two_keys

-- the key 1 stands at the places 0 and 2
abbrev pub TwiceIsRepeated : Type 0
TwiceIsRepeated = NoTableOf two_keys_twice true (Repeated 0 2)

-- the earlier place is named first
abbrev pub LaterIsNotFirst : Type 0
LaterIsNotFirst = NoTableOf two_keys_twice true (Repeated 2 0) → ⊥

-- the key 2 stands at the places 1 and 3, but 3 is not the least place of a repeated key
abbrev pub LaterIsNotNamed : Type 0
LaterIsNotNamed = NoTableOf two_keys_twice true (Repeated 1 3) → ⊥

-- keys that differ are not repeated
abbrev pub DifferentAreNotRepeated : Type 0
DifferentAreNotRepeated = NoTableOf two_keys_twice true (Repeated 0 1) → ⊥

-- what does not fit is too large before it is repeated
abbrev pub UnfitTableIsTooLarge : Type 0
UnfitTableIsTooLarge = NoTableOf two_keys_twice false TooLarge

abbrev pub UnfitTableIsNotRepeated : Type 0
UnfitTableIsNotRepeated = NoTableOf two_keys_twice false (Repeated 0 2) → ⊥

-- and what fits is not too large
abbrev pub FitTableIsNotTooLarge : Type 0
FitTableIsNotTooLarge = (pairs : List (Bytes × Bytes)) → NoTableOf pairs true TooLarge → ⊥

-- a repeated key is named before a bucket
abbrev pub RepeatedBeforeStuck : Type 0
RepeatedBeforeStuck = (bucket : ℕ) → NoTableOf two_keys_twice true (NoPlace bucket) → ⊥

-- where nothing of a key is hashed, both have one hash: its bucket, which is 1, is stuck
abbrev pub AlikeHaveNoPlace : Type 0
AlikeHaveNoPlace = IsNoTable (slice_cmp nat_cmp) (λ _. []) true two_keys (NoPlace 1)

-- but where they do not fit, that comes first
abbrev pub UnfitBeforeStuck : Type 0
UnfitBeforeStuck =
    IsNoTable (slice_cmp nat_cmp) (λ _. []) false two_keys (NoPlace 1) → ⊥

-- and where their own bytes are hashed, no bucket is stuck
abbrev pub DifferentHavePlaces : Type 0
DifferentHavePlaces = (bucket : ℕ) → NoTableOf two_keys true (NoPlace bucket) → ⊥

-- 2^32 pairs are too many
abbrev pub ManyPairsAreTooMany : Type 0
ManyPairsAreTooMany = (pairs : List (Bytes × Bytes)) (fits : Bool) → length pairs ≡ 2 ^ 32
    → NoTableOf pairs fits TooMany

-- before they are too large
abbrev pub ManyBeforeTooLarge : Type 0
ManyBeforeTooLarge = (pairs : List (Bytes × Bytes)) (fits : Bool) → length pairs ≡ 2 ^ 32
    → NoTableOf pairs fits TooLarge → ⊥

-- before a key is repeated
abbrev pub ManyBeforeRepeated : Type 0
ManyBeforeRepeated = (pairs : List (Bytes × Bytes)) (fits : Bool) (first second : ℕ)
    → length pairs ≡ 2 ^ 32 → NoTableOf pairs fits (Repeated first second) → ⊥

-- and before a bucket is stuck
abbrev pub ManyPairsBeforeStuck : Type 0
ManyPairsBeforeStuck = (pairs : List (Bytes × Bytes)) (fits : Bool) (bucket : ℕ)
    → length pairs ≡ 2 ^ 32 → NoTableOf pairs fits (NoPlace bucket) → ⊥

-- one pair less is not too many
abbrev pub MostPairsAreNotTooMany : Type 0
MostPairsAreNotTooMany = (pairs : List (Bytes × Bytes)) (fits : Bool)
    → length pairs ≡ 2 ^ 32 - 1 → NoTableOf pairs fits TooMany → ⊥

-- but too large where they do not fit
abbrev pub MostPairsMayBeTooLarge : Type 0
MostPairsMayBeTooLarge = (pairs : List (Bytes × Bytes)) → length pairs ≡ 2 ^ 32 - 1
    → NoTableOf pairs false TooLarge

-- and memory may be wanted at any point
abbrev pub TableMayWantMemory : Type 0
TableMayWantMemory = (pairs : List (Bytes × Bytes)) (fits : Bool) → NoTableOf pairs fits Memory
