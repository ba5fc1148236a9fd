-- The hashes of each bucket as a chain of places: the first, and for each place the next.
use Rattle.std.specs.Prelude.{◌≡◌, ℕ, ◌+◌, ◌<◌, ◌≤◌, List, length, slice_index}
use Rattle.zv_hash.specs.Placement.{IsMember, bucket_at, sent_to}

-- p is the least place from `from` on whose hash is in bucket g, or the number of hashes
pub record IsNext (hs : List ℕ) (g from p : ℕ) : Type 0 where
  pub above : from ≤ p
  pub within : p ≤ length hs
  pub member : p < length hs → bucket_at hs p ≡ g
  pub none : (i : ℕ) → from ≤ i → i < p → bucket_at hs i ≡ g → ⊥

-- the chains through all places from `from` on
pub record AreChains (hs : List ℕ) (from : ℕ) (firsts nexts : List ℕ) : Type 0 where
  pub first_len : length firsts ≡ length hs
  pub next_len : length nexts ≡ length hs
  pub first : (g : ℕ) → g < length hs → IsNext hs g from (slice_index firsts g)
  pub next : (i : ℕ) → from ≤ i → i < length hs
      → IsNext hs (bucket_at hs i) (i + 1) (slice_index nexts i)

-- a displacement sends bucket g's hashes to distinct slots that hold no place
pub record FitsFree (hs places : List ℕ) (g : ℕ) (d : ℕ × ℕ) : Type 0 where
  pub distinct : (i j : ℕ) → IsMember hs g i → IsMember hs g j
      → sent_to hs d i ≡ sent_to hs d j → i ≡ j
  pub free : (i : ℕ) → IsMember hs g i → length hs ≤ slice_index places (sent_to hs d i)
