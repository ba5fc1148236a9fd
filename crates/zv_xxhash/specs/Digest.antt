-- XXH64, the 64-bit digest of the xxHash specification (version 0.1.1), on a whole list of bytes.
-- There is no buffer and no state between writes here. All sums and products are modulo 2 ^ 64.
use Rattle.std.specs.Prelude.{ℕ, zero, suc, ◌+◌, ◌-◌, ◌*◌, ◌/◌, ◌%◌, ◌^◌, nat_lt}
use Rattle.std.specs.Prelude.{List, [], ◌∷◌, length, take, drop, slice_index, bit_xor}
use Rattle.std.specs.Prelude.{if◌then◌else◌}
use Rattle.std.specs.Int.{w32, w64, rotate_left, from_le_bytes}

abbrev pub plus : ℕ → ℕ → ℕ
plus a b = (a + b) % 2 ^ 64

abbrev pub times : ℕ → ℕ → ℕ
times a b = (a * b) % 2 ^ 64

-- the five primes of the specification
abbrev pub prime1 : ℕ
prime1 = 0x9E3779B185EBCA87

abbrev pub prime2 : ℕ
prime2 = 0xC2B2AE3D27D4EB4F

abbrev pub prime3 : ℕ
prime3 = 0x165667B19E3779F9

abbrev pub prime4 : ℕ
prime4 = 0x85EBCA77C2B2AE63

abbrev pub prime5 : ℕ
prime5 = 0x27D4EB2F165667C5

-- the number that the first eight bytes spell, the lowest first; and the first four
abbrev pub word : List ℕ → ℕ
word b = from_le_bytes w64 (take 8 b)

abbrev pub half_word : List ℕ → ℕ
half_word b = from_le_bytes w32 (take 4 b)

-- ---- stripes of 32 bytes, over four lanes

-- a lane with one word more: the round of the specification
abbrev pub lane_after : ℕ → ℕ → ℕ
lane_after lane x = times (rotate_left w64 (plus lane (times x prime2)) 31) prime1

-- the lanes before the first stripe
abbrev pub first_lanes : ℕ → List ℕ
first_lanes seed =
    plus (plus seed prime1) prime2 ∷ plus seed prime2 ∷ seed
    ∷ (seed + (2 ^ 64 - prime1)) % 2 ^ 64 ∷ []

-- the lanes with one stripe more: each takes one of its four words
abbrev pub lanes_after : List ℕ → List ℕ → List ℕ
lanes_after lanes stripe =
    lane_after (slice_index lanes 0) (word stripe)
    ∷ lane_after (slice_index lanes 1) (word (drop 8 stripe))
    ∷ lane_after (slice_index lanes 2) (word (drop 16 stripe))
    ∷ lane_after (slice_index lanes 3) (word (drop 24 stripe)) ∷ []

-- the lanes after the first n stripes of b
abbrev pub lanes_through : ℕ → List ℕ → List ℕ → List ℕ
lanes_through zero lanes b = lanes
lanes_through (suc n) lanes b = lanes_through n (lanes_after lanes (take 32 b)) (drop 32 b)

-- the lanes after all whole stripes of b, and the bytes that are left then
abbrev pub all_lanes : List ℕ → List ℕ → List ℕ
all_lanes lanes b = lanes_through (length b / 32) lanes b

abbrev pub left_over : List ℕ → List ℕ
left_over b = drop (32 * (length b / 32)) b

-- one lane merged into the hash
abbrev pub merged : ℕ → ℕ → ℕ
merged h lane = plus (times (bit_xor h (lane_after 0 lane)) prime1) prime4

-- the four lanes as one number
abbrev pub converged : List ℕ → ℕ
converged lanes =
    let v1 : ℕ = slice_index lanes 0 in
    let v2 : ℕ = slice_index lanes 1 in
    let v3 : ℕ = slice_index lanes 2 in
    let v4 : ℕ = slice_index lanes 3 in
    merged (merged (merged (merged
    (plus (plus (plus (rotate_left w64 v1 1) (rotate_left w64 v2 7))
    (rotate_left w64 v3 12)) (rotate_left w64 v4 18))
    v1) v2) v3) v4

-- the hash of the stripes: without any, it begins with the seed alone
abbrev pub opening : ℕ → List ℕ → ℕ
opening seed b =
    if nat_lt (length b) 32 then plus seed prime5
    else converged (all_lanes (first_lanes seed) b)

-- ---- what is left: words, then half a word, then bytes

abbrev pub with_word : ℕ → List ℕ → ℕ
with_word h b =
    plus (times (rotate_left w64 (bit_xor h (lane_after 0 (word b))) 27) prime1) prime4

abbrev pub with_half_word : ℕ → List ℕ → ℕ
with_half_word h b =
    plus (times (rotate_left w64 (bit_xor h (times (half_word b) prime1)) 23) prime2) prime3

abbrev pub with_byte : ℕ → ℕ → ℕ
with_byte h b = times (rotate_left w64 (bit_xor h (times b prime5)) 11) prime1

abbrev pub with_words : ℕ → ℕ → List ℕ → ℕ
with_words zero h b = h
with_words (suc n) h b = with_words n (with_word h b) (drop 8 b)

abbrev pub with_bytes : ℕ → List ℕ → ℕ
with_bytes h [] = h
with_bytes h (b ∷ bs) = with_bytes (with_byte h b) bs

-- fewer than eight bytes
abbrev pub with_end : ℕ → List ℕ → ℕ
with_end h b =
    if nat_lt (length b) 4 then with_bytes h b
    else with_bytes (with_half_word h b) (drop 4 b)

-- fewer than 32 bytes
abbrev pub with_rest : ℕ → List ℕ → ℕ
with_rest h b = with_end (with_words (length b / 8) h b) (drop (8 * (length b / 8)) b)

-- the last mixing of all bits
abbrev pub avalanche : ℕ → ℕ
avalanche h =
    let a : ℕ = times (bit_xor h (h / 2 ^ 33)) prime2 in
    let b : ℕ = times (bit_xor a (a / 2 ^ 29)) prime3 in
    bit_xor b (b / 2 ^ 32)

-- the digest
unfoldable pub xxh64 : ℕ → List ℕ → ℕ
xxh64 seed b = avalanche (with_rest (plus (opening seed b) (length b)) (left_over b))
