-- The key of two texts in a hash table.
use Rattle.std.specs.Prelude.{◌≡◌, ℕ, ◌+◌, ◌-◌, ◌<◌, ◌^◌, Bool, ◌&&◌, nat_le, List, ◌∷◌, [], ◌++◌}
use Rattle.std.specs.Prelude.{length, take, drop, None, is_none}
use Rattle.std.specs.Prelude.{flat_map, slice_index}
use Rattle.std.specs.Cmp.Lexicographic.{slice_cmp}
use Rattle.std.specs.Ordering.{nat_cmp, on}
use Rattle.zv_ule.specs.Bytes.{le, number}
use Rattle.zv_ule.specs.Chunks.{values_of}
use Rattle.zv_ule.specs.Kinds.{text_fault}
use Rattle.zv_map.specs.Keys.{Bytes, Order}

-- the key of two texts: how long the first is, as four bytes, and then both
abbrev pub pair_key : Bytes → Bytes → Bytes
pair_key k0 k1 = le 4 (length k0) ++ (k0 ++ k1)

-- a key is that of these two texts
pub record IsKeyOf (key k0 k1 : Bytes) : Type 0 where
  pub text0 : text_fault k0 ≡ None
  pub text1 : text_fault k1 ≡ None
  pub short : length k0 < 2 ^ 32
  pub is : key ≡ pair_key k0 k1

-- how long the first text of a key is
abbrev pub first_len : Bytes → ℕ
first_len key = number (take 4 key)

-- the first text of a key, and the second
abbrev pub text0 : Bytes → Bytes
text0 key = take (first_len key) (drop 4 key)

abbrev pub text1 : Bytes → Bytes
text1 key = drop (4 + first_len key) key

-- a key is that of two texts, which then are its texts
abbrev pub IsKey : Bytes → Type 0
IsKey key = IsKeyOf key (text0 key) (text1 key)

-- whether a key is that of two texts
abbrev pub is_key : Bytes → Bool
is_key key = nat_le 4 (length key) && nat_le (first_len key) (length key - 4)
    && is_none (text_fault (text0 key)) && is_none (text_fault (text1 key))

-- keys are ordered, and hashed, as lists of bytes
abbrev pub read_bytes : Bytes → List ℕ
read_bytes key = values_of 1 (λ b. slice_index b 0) key

abbrev pub key_order : Order
key_order = on read_bytes (slice_cmp nat_cmp)

abbrev pub key_hashed : Bytes → List ℕ
key_hashed key = flat_map (λ v. v ∷ []) (read_bytes key)
