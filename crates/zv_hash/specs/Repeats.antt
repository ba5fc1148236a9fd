-- Hashes that stand at an earlier place too.
use Rattle.std.specs.Prelude.{◌≡◌, ℕ, ◌<◌, List, length, slice_index}

-- the hashes before place n all differ
abbrev pub AreDistinctBelow : List ℕ → ℕ → Type 0
AreDistinctBelow hs n = (i j : ℕ) → i < j → j < n → slice_index hs i ≡ slice_index hs j → ⊥

-- the hash at a place stands at an earlier one too, and those before it all differ
pub record IsFirstRepeat (hs : List ℕ) (place : ℕ) : Type 0 where
  pub within : place < length hs
  pub earlier : (i : ℕ) × (i < place) × (slice_index hs i ≡ slice_index hs place)
  pub before : AreDistinctBelow hs place
