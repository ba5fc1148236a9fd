-- Where a table puts n hashes into n slots. The hashes of one bucket have one displacement, which
-- sends them to their slots. `hs` are the hashes, and `ds` the displacements of buckets 0, 1, ..
use Rattle.std.specs.Prelude.{◌≡◌, ℕ, ◌+◌, ◌<◌, ◌==◌, ◌⊎◌, max, Some, List, length}
use Rattle.std.specs.Prelude.{slice_index, slice_index_or, count_by}
use Rattle.zv_hash.specs.Splitting.{bucket_of, index, parts, slot_of}

-- the bucket of the hash at a place
abbrev pub bucket_at : List ℕ → ℕ → ℕ
bucket_at hs i = bucket_of (length hs) (slice_index hs i)

-- the hash at place i is in bucket g
pub record IsMember (hs : List ℕ) (g i : ℕ) : Type 0 where
  pub within : i < length hs
  pub bucket : bucket_at hs i ≡ g

-- how many hashes a bucket has
abbrev pub size : List ℕ → ℕ → ℕ
size hs g = count_by (λ h. bucket_of (length hs) h == g) hs

-- the displacement of a bucket
abbrev pub displacement : List (ℕ × ℕ) → ℕ → ℕ × ℕ
displacement ds g = slice_index_or ds g (0, 0)

-- the slot that a displacement sends the hash at place i to, and that its bucket's sends it to
abbrev pub sent_to : List ℕ → ℕ × ℕ → ℕ → ℕ
sent_to hs d i = slot_of (length hs) d (parts (slice_index hs i))

abbrev pub slot_at : List ℕ → List (ℕ × ℕ) → ℕ → ℕ
slot_at hs ds i = sent_to hs (displacement ds (bucket_at hs i)) i

-- the order of buckets: the larger first, and of one size the higher number first
abbrev pub IsBefore : List ℕ → ℕ → ℕ → Type 0
IsBefore hs f g = (size hs g < size hs f) ⊎ ((size hs f ≡ size hs g) × (g < f))

-- the displacements that are tried: both numbers below n, and not both 0. For one hash, where
-- there are none, it is (0, 1)
pub record IsCandidate (n : ℕ) (d : ℕ × ℕ) : Type 0 where
  pub first : d.0 < n
  pub second : d.1 < max n 2
  pub some : 0 < d.0 + d.1

-- the order in which they are tried
abbrev pub IsEarlier : ℕ × ℕ → ℕ × ℕ → Type 0
IsEarlier e d = (e.0 < d.0) ⊎ ((e.0 ≡ d.0) × (e.1 < d.1))

-- a displacement sends bucket g's hashes to distinct slots that no bucket before g holds
pub record Fits (hs : List ℕ) (ds : List (ℕ × ℕ)) (g : ℕ) (d : ℕ × ℕ) : Type 0 where
  pub distinct : (i j : ℕ) → IsMember hs g i → IsMember hs g j
      → sent_to hs d i ≡ sent_to hs d j → i ≡ j
  pub free : (i j : ℕ) → IsMember hs g i → j < length hs → IsBefore hs (bucket_at hs j) g
      → sent_to hs d i ≡ slot_at hs ds j → ⊥

-- bucket g has the first candidate that fits
pub record IsChoice (hs : List ℕ) (ds : List (ℕ × ℕ)) (g : ℕ) : Type 0 where
  pub candidate : IsCandidate (length hs) (displacement ds g)
  pub fits : Fits hs ds g (displacement ds g)
  pub first : (e : ℕ × ℕ) → IsCandidate (length hs) e → IsEarlier e (displacement ds g)
      → Fits hs ds g e → ⊥

-- each bucket has the first candidate that fits, and one without hashes has (0, 0)
pub record Chosen (hs : List ℕ) (ds : List (ℕ × ℕ)) : Type 0 where
  pub len : length ds ≡ length hs
  pub choices : (g : ℕ) → g < length hs → 0 < size hs g → IsChoice hs ds g
  pub empty : (g : ℕ) → g < length hs → size hs g ≡ 0 → displacement ds g ≡ (0, 0)

-- bucket g is the first without a candidate that fits
pub record IsStuck (hs : List ℕ) (g : ℕ) : Type 0 where
  pub within : g < length hs
  pub some : 0 < size hs g
  pub ds : List (ℕ × ℕ)
  pub before : (f : ℕ) → f < length hs → 0 < size hs f → IsBefore hs f g → IsChoice hs ds f
  pub none : (d : ℕ × ℕ) → IsCandidate (length hs) d → Fits hs ds g d → ⊥

-- slot s holds the hash at place s of `places`, each place once
pub record Placed (hs : List ℕ) (ds : List (ℕ × ℕ)) (places : List ℕ) : Type 0 where
  pub len : length places ≡ length hs
  pub within : (s : ℕ) → s < length hs → slice_index places s < length hs
  pub distinct : (s t : ℕ) → s < length hs → t < length hs
      → slice_index places s ≡ slice_index places t → s ≡ t
  pub slots : (s : ℕ) → s < length hs
      → let i : ℕ = slice_index places s in
      index (parts (slice_index hs i)) (displacement ds (bucket_at hs i)) (length hs) ≡ Some s
