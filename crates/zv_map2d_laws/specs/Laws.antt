-- The laws of images, and of changes of the maps that they stand for, each a clause of a function.
use Rattle.std.specs.Prelude.{◌≡◌, ℕ, ◌-◌, ◌*◌, ◌^◌, ◌<◌, ◌≤◌, ◌↔◌, true, List, [], length}
use Rattle.std.specs.Prelude.{Some, None}
use Rattle.std.specs.Option.{option_map_or}
use Rattle.zv_ule.specs.Bytes.{IsBytes}
use Rattle.zv_ule.specs.Kinds.{text_fault}
use Rattle.zv_var.specs.Format.{codable}
use Rattle.zv_map2d.specs.Keys.{Bytes}
use Rattle.zv_map2d.specs.Rows.{Rows, firsts, seconds, values, IsWell, put, del}
use Rattle.zv_map2d.specs.Causes.{rows_read}
use Rattle.zv_map2d.specs.Formats.{IsFormed, unformed}
use Rattle.zv_map2d.specs.Frame.{Parts}
use Rattle.zv_map2d.specs.Image.{IsTextMap, Stands, by_bytes, fault, canon, spelling_in, texts_in}
use Rattle.zv_map2d.specs.Fits.{fits, fits_texts, fits_texts_in, texts_rule_in}
use Rattle.zv_map2d.specs.declared.error.EditError.{EditError}
use Rattle.zv_map2d.specs.declared.image.WideLists.{WideLists}

-- an image has no fault exactly where it stands for a map
abbrev pub IsReadExactly : Type 0
IsReadExactly = (image : List ℕ) → IsBytes image → length image < 2 ^ 64 - 1 →
    (fault image ≡ None) ↔ ((m : Rows) × Stands image m)

-- and it stands for no other
abbrev pub StandsForOne : Type 0
StandsForOne = (image : List ℕ) (m n : Rows) → length image < 2 ^ 64 - 1 →
    Stands image m → Stands image n → m ≡ n

-- the rows that an image is read as, none where it is not formed
abbrev pub rows_in : List ℕ → Rows
rows_in image = option_map_or (λ f. rows_read (texts_in f.0) f.1) (unformed image) []

-- the map that an image stands for has these rows
abbrev pub ReadsAsRows : Type 0
ReadsAsRows = (image : List ℕ) (m : Rows) → length image < 2 ^ 64 - 1 → Stands image m →
    m ≡ rows_in image

-- the lists of the map can be written, with fields of four bytes
pub record IsCodable (m : Rows) : Type 0 where
  pub keys0 : codable 4 (firsts m) ≡ true
  pub keys1 : codable 4 (seconds m) ≡ true
  pub values : codable 4 (values m) ≡ true

-- the canonical image of a map that can be written stands for the map
abbrev pub CanonStands : Type 0
CanonStands = (m : Rows) → IsTextMap m → IsCodable m → Stands (canon m) m

-- an image of a map that isn't empty differs from the canonical one in its formats alone
abbrev pub OneSpelling : Type 0
OneSpelling = (image : List ℕ) (m : Rows) (s : Stands image m) → (m ≡ [] → ⊥) →
    s.parts ≡ spelling_in s.lists m

-- the canonical image of a map that an image stands for is bytes, and at most twice as long as that
-- image
abbrev pub CanonBounded : Type 0
CanonBounded =
    (image : List ℕ) (m : Rows) → IsBytes image → length image < 2 ^ 64 - 1 → Stands image m →
    IsBytes (canon m) × (length (canon m) ≤ 2 * length image)

-- an image is no frame exactly where no formats and parts make it
abbrev pub FrameExactly : Type 0
FrameExactly = (image : List ℕ) → IsBytes image → length image < 2 ^ 64 - 1 →
    (fault image ≡ Some EditError.Frame) ↔ ((w : WideLists) (p : Parts) → IsFormed image w p → ⊥)

-- the canonical image of a map that can be written has no fault, and stands for no other map
abbrev pub CanonAgain : Type 0
CanonAgain = (m : Rows) → IsTextMap m → IsCodable m → length (canon m) < 2 ^ 64 - 1 →
    (fault (canon m) ≡ None) × ((n : Rows) → Stands (canon m) n → n ≡ m)

-- two images stand for one map exactly where the canonical images of their maps are equal
abbrev pub SameCanon : Type 0
SameCanon = (image other : List ℕ) (m n : Rows) →
    length image < 2 ^ 63 → length other < 2 ^ 63 → Stands image m → Stands other n →
    (m ≡ n) ↔ (canon m ≡ canon n)

-- the empty map is a map of texts, and can be written
abbrev pub EmptyStands : Type 0
EmptyStands = IsTextMap [] × IsCodable []

-- a value for two texts leaves a map of texts
abbrev pub PutKeeps : Type 0
PutKeeps = (m : Rows) (k0 k1 v : Bytes) → text_fault k0 ≡ None → text_fault k1 ≡ None →
    IsTextMap m → IsTextMap (put by_bytes by_bytes m k0 k1 v)

-- and so does a removal
abbrev pub DelKeeps : Type 0
DelKeeps = (m : Rows) (k0 k1 : Bytes) → IsTextMap m → IsTextMap (del by_bytes by_bytes m k0 k1)

-- a map that can be written still can with a value that fits
abbrev pub PutCodable : Type 0
PutCodable = (m : Rows) (k0 k1 v : Bytes) → IsTextMap m → IsCodable m →
    fits_texts m k0 k1 v ≡ true → IsCodable (put by_bytes by_bytes m k0 k1 v)

-- and after any removal
abbrev pub DelCodable : Type 0
DelCodable = (m : Rows) (k0 k1 : Bytes) → IsTextMap m → IsCodable m →
    IsCodable (del by_bytes by_bytes m k0 k1)

-- what fits by the rules of the three lists is what fits in a map from two texts to bytes
abbrev pub FitsAlike : Type 0
FitsAlike = (w : ℕ) (m : Rows) (k0 k1 v : Bytes) → IsWell by_bytes by_bytes m →
    fits (texts_rule_in w) by_bytes by_bytes m k0 k1 v ≡ fits_texts_in w m k0 k1 v
