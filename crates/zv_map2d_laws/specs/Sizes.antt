-- How many bytes the lists of a map take with fields of four bytes, and that little enough fits.
use Rattle.std.specs.Prelude.{◌≡◌, ℕ, ◌+◌, ◌-◌, ◌*◌, ◌^◌, ◌<◌, ◌≤◌, true, List}
use Rattle.std.specs.Prelude.{length}
use Rattle.zv_owned.specs.Size.{size}
use Rattle.zv_map2d.specs.Fits.{fits_texts}
use Rattle.zv_map2d.specs.Image.{Stands, by_bytes}
use Rattle.zv_map2d.specs.Keys.{Bytes}
use Rattle.zv_map2d.specs.Rows.{Rows, IsWell, firsts, seconds, values, put, del}

-- how many bytes the three lists take
abbrev pub wide_size : Rows → ℕ
wide_size m = size 4 (firsts m) + size 4 (seconds m) + size 4 (values m)

-- how many more they take with a new row at most
abbrev pub added_size : Bytes → Bytes → Bytes → ℕ
added_size k0 k1 v = length k0 + length k1 + length v + 12

-- a put adds no more than that
abbrev pub PutGrows : Type 0
PutGrows = (m : Rows) (k0 k1 v : Bytes) → IsWell by_bytes by_bytes m →
    wide_size (put by_bytes by_bytes m k0 k1 v) ≤ wide_size m + added_size k0 k1 v

-- a removal adds nothing
abbrev pub DelShrinks : Type 0
DelShrinks = (m : Rows) (k0 k1 : Bytes) → IsWell by_bytes by_bytes m →
    wide_size (del by_bytes by_bytes m k0 k1) ≤ wide_size m

-- the lists of an image take at most twice its length
abbrev pub ImageHolds : Type 0
ImageHolds = (image : List ℕ) (m : Rows) → Stands image m → wide_size m ≤ 2 * length image

-- a value fits where all stays below 2 ^ 32 - 1
abbrev pub SmallFits : Type 0
SmallFits = (m : Rows) (k0 k1 v : Bytes) →
    wide_size m + added_size k0 k1 v < 2 ^ 32 - 1 → fits_texts m k0 k1 v ≡ true
