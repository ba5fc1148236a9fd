-- Buckets and slots are below the number of hashes, and a bucket with a member has a size.
use Rattle.zv_hash.proofs.Common.{ℕ, ◌+◌, ◌*◌, ◌/◌, ◌%◌, ◌^◌, ◌<◌, ◌≤◌, ◌==◌, cond, List, length, get_or, arith, refl, eq-eqb, ne_eqb, AreChains, bucket_at}
use Rattle.zv_hash.proofs.Common.{size, get_or-le-sum_by, sum_by-le}
use Rattle.std.proofs.lemmas.List.Elements.{All-from_get_or}
use Rattle.std.proofs.lemmas.Nat.{mod_below}
use Rattle.zv_hash.specs.Splitting.{bucket_of, slot_of}

pub slot_below : (m : ℕ) (d f : ℕ × ℕ) → 0 < m → slot_of m d f < m
unfolding slot_of
slot_below m d f pos = mod_below ((f.1 * d.0 + f.0 + d.1) % 2 ^ 32) m pos

pub bucket_below : (hs : List ℕ) (i : ℕ) → i < length hs → bucket_at hs i < length hs
unfolding bucket_of
bucket_below hs i h = mod_below (get_or hs i 0 / 2 ^ 48) (length hs) (omega arith)

pub bucket_size : (hs : List ℕ) (i : ℕ) → i < length hs → 0 < size hs (bucket_at hs i)
bucket_size hs i h =
    let one = get_or-le-sum_by (λ x. cond (bucket_of (length hs) x == bucket_at hs i) 1 0) hs i 0 h in
    omega (arith, rw (eq-eqb (bucket_at hs i) (bucket_at hs i) refl) at one)

-- a bucket with a size has a first place
pub first_member : {hs firsts nexts : List ℕ} (g : ℕ) → AreChains hs 0 firsts nexts → g < length hs → 0 < size hs g → get_or firsts g 0 < length hs
first_member {hs} {firsts} g chains within pos =
    let next = chains.first g within in
    let one : ℕ → ℕ = λ x. cond (bucket_of (length hs) x == g) 1 0 in
    let none = λ (past : length hs ≤ get_or firsts g 0). sum_by-le one 0 hs (All-from_get_or (λ x. one x ≤ 0) hs 0 (λ i h.
    rw (ne_eqb (bucket_at hs i) g (next.none i (omega arith) (omega arith))) (omega arith))) in
    grind arith
