-- A table of slots while the buckets are placed, the largest first.
use Rattle.std.specs.Prelude.{◌≡◌, ℕ, ◌<◌, ◌≤◌, ◌⊎◌, List, length, slice_index}
use Rattle.zv_hash.specs.Placement.{IsChoice, bucket_at, displacement, size, slot_at}

-- the buckets that are placed: those of more than s hashes, and those of s from number g on
abbrev pub IsDone : List ℕ → ℕ → ℕ → ℕ → Type 0
IsDone hs s g f = (s < size hs f) ⊎ ((size hs f ≡ s) × (g ≤ f))

-- the buckets that are placed have their displacements, and their hashes hold their slots
pub record Filled (hs : List ℕ) (ds : List (ℕ × ℕ)) (places : List ℕ) (s g : ℕ) : Type 0 where
  pub ds_len : length ds ≡ length hs
  pub len : length places ≡ length hs
  pub choices : (f : ℕ) → f < length hs → IsDone hs s g f → IsChoice hs ds f
  pub empty : (f : ℕ) → f < length hs → (IsDone hs s g f → ⊥) → displacement ds f ≡ (0, 0)
  pub held : (i : ℕ) → i < length hs → IsDone hs s g (bucket_at hs i)
      → slice_index places (slot_at hs ds i) ≡ i
  pub free : (t : ℕ) → t < length hs → slice_index places t < length hs
      → IsDone hs s g (bucket_at hs (slice_index places t))
      × (slot_at hs ds (slice_index places t) ≡ t)
