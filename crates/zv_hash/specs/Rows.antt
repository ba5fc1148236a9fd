-- Worked placements, by the definitions. A separate model of the rules placed the keys 0 to 9.
use Rattle.std.specs.Prelude.{◌≡◌, ℕ, ◌+◌, ◌*◌, ◌^◌, Some, None, List, [], ◌∷◌, map}
use Rattle.std.specs.Int.{w32, to_le_bytes}
use Rattle.zv_xxhash.specs.Digest.{xxh64}
use Rattle.zv_hash.specs.Splitting.{index, split}
use Rattle.zv_hash.specs.Placement.{Chosen, IsStuck}

abbrev pub SplitInThree : Type 0
SplitInThree = split 0x0123456789ABCDEF 10 ≡ (1, 4548489, 11259375)

-- 3 * 2 + 5 + 1 = 12; and 2 ^ 32 + 16776959, of which 2 ^ 32 is dropped
abbrev pub IndexOfParts : Type 0
IndexOfParts = index (5, 3) (2, 1) 7 ≡ Some 5

abbrev pub IndexWraps : Type 0
IndexWraps = index (0xFFFFFF, 0xFFFFFF) (256, 0) 7 ≡ Some 3

abbrev pub IndexOfNone : Type 0
IndexOfNone = (index (5, 3) (0, 0) 7 ≡ None) × (index (5, 3) (2, 1) 0 ≡ None)

abbrev pub hash : ℕ → ℕ → ℕ → ℕ
hash bucket f0 f1 = bucket * 2 ^ 48 + f0 * 2 ^ 24 + f1

-- one hash goes to the one slot
abbrev pub OneHash : Type 0
OneHash = Chosen (7 ∷ []) ((0, 1) ∷ [])

-- equal hashes never part
abbrev pub EqualHashes : Type 0
EqualHashes = IsStuck (5 ∷ 5 ∷ []) 0

-- two hashes of bucket 0, which (0, 1) sends to slot 1 both, and (1, 0) to 0 and 1
abbrev pub OneBucket : Type 0
OneBucket = Chosen (hash 0 0 0 ∷ hash 0 0 1 ∷ []) ((1, 0) ∷ (0, 0) ∷ [])

-- of buckets of one size the higher number is first: bucket 1 takes slot 1 by (0, 1), and bucket 0
-- finds it held and goes to 0 by (1, 0)
abbrev pub HigherFirst : Type 0
HigherFirst = Chosen (hash 0 0 0 ∷ hash 1 0 0 ∷ []) ((1, 0) ∷ (0, 1) ∷ [])

-- the larger bucket is first: bucket 0 takes slots 1 and 2 by (0, 1), and bucket 2 goes to 0 by
-- (0, 3), which is no candidate, and so by (1, 0)
abbrev pub LargerFirst : Type 0
LargerFirst = Chosen (hash 2 0 0 ∷ hash 0 0 0 ∷ hash 0 1 0 ∷ []) ((0, 1) ∷ (0, 0) ∷ (1, 0) ∷ [])

-- bucket 1's hashes differ, and yet go to one slot by every displacement, since 3 slots are three
-- apart
abbrev pub SameSlot : Type 0
SameSlot = IsStuck (hash 1 0 0 ∷ hash 1 3 0 ∷ hash 2 0 0 ∷ []) 1

-- the hashes of the numbers 0 to 9 in four bytes
abbrev pub key_hashes : List ℕ
key_hashes =
    0xAADB32821F317443 ∷ 0x481C170B46DE1B40 ∷ 0x5647C190C2243A41 ∷ 0xF31A3D3D037B5046
    ∷ 0x164A7AA1915FEAEE ∷ 0x441FAE4533914688 ∷ 0x00F7E8C3553AD005 ∷ 0x1808C48CE8C8F80A
    ∷ 0x689D6C9CBA8A054B ∷ 0xDDCCFD965B82E623 ∷ []

abbrev pub KeyHashes : Type 0
KeyHashes =
    map (λ k. xxh64 0xAABBCCDD (to_le_bytes w32 k))
    (0 ∷ 1 ∷ 2 ∷ 3 ∷ 4 ∷ 5 ∷ 6 ∷ 7 ∷ 8 ∷ 9 ∷ []) ≡ key_hashes

-- the keys 0, 1 and 2
abbrev pub ThreeKeys : Type 0
ThreeKeys =
    Chosen (0xAADB32821F317443 ∷ 0x481C170B46DE1B40 ∷ 0x5647C190C2243A41 ∷ [])
    ((0, 0) ∷ (0, 1) ∷ (0, 1) ∷ [])

-- the keys 0 to 9
abbrev pub TenKeys : Type 0
TenKeys =
    Chosen key_hashes
    ((0, 2) ∷ (0, 5) ∷ (0, 5) ∷ (0, 0) ∷ (0, 4) ∷ (0, 0) ∷ (0, 1) ∷ (0, 1) ∷ (0, 0) ∷ (0, 1)
    ∷ [])
