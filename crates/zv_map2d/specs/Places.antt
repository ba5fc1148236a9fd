-- Where a pair of keys stands in a map, or would, and what a change at that place leaves.
use Rattle.std.specs.Prelude.{◌+◌, ◌==◌, ◌&&◌, Bool, [], ◌∷◌, length, cond, Option}
use Rattle.std.specs.Prelude.{Some, None, true, false}
use Rattle.std.specs.List.{insert, remove}
use Rattle.zv_map.specs.Maps.{IsAt, keys_of, set_value_at}
use Rattle.zv_ule.specs.Search.{IsGap, compared}
use Rattle.zv_map2d.specs.Fits.{Rule, pair_fits}
use Rattle.zv_map2d.specs.Keys.{Bytes, Order, nth}
use Rattle.zv_map2d.specs.Rows.{Rows, before, firsts, row_at, values}
use Rattle.zv_map2d.specs.declared.place.Place.{Place}
use Rattle.zv_map2d.specs.declared.place.Place.TheVariants.{Pair, InRow, NewRow}

-- the pair is there
abbrev pub is_pair : Place → Bool
is_pair (Pair i j) = true
is_pair (InRow i j) = false
is_pair (NewRow i) = false

-- it is the place of the pair of keys
abbrev pub IsPlace : Order → Order → Rows → Bytes → Bytes → Place → Type 0
IsPlace order0 order1 m k0 k1 (Pair i j) = IsAt (compared order0 (firsts m) k0) i
    × IsAt (compared order1 (keys_of (row_at m i)) k1) j
IsPlace order0 order1 m k0 k1 (InRow i j) = IsAt (compared order0 (firsts m) k0) i
    × IsGap (compared order1 (keys_of (row_at m i)) k1) j
IsPlace order0 order1 m k0 k1 (NewRow i) = IsGap (compared order0 (firsts m) k0) i

-- the value there
abbrev pub find_at : Rows → Place → Option Bytes
find_at m (Pair i j) = Some (nth (values m) (before m i + j))
find_at m (InRow i j) = None
find_at m (NewRow i) = None

-- v is put there for the keys
abbrev pub put_at : Rows → Bytes → Bytes → Bytes → Place → Rows
put_at m k0 k1 v (Pair i j) = set_value_at m i (set_value_at (row_at m i) j v)
put_at m k0 k1 v (InRow i j) = set_value_at m i (insert (row_at m i) j (k1, v))
put_at m k0 k1 v (NewRow i) = insert m i (k0, (k1, v) ∷ [])

-- it fits there
abbrev pub fits_at : Rule → Rows → Bytes → Bytes → Bytes → Place → Bool
fits_at rule m k0 k1 v (Pair i j) = rule.replaces (values m) (before m i + j) (length v)
fits_at rule m k0 k1 v (InRow i j) = pair_fits rule m k1 v
fits_at rule m k0 k1 v (NewRow i) = rule.takes0 (firsts m) (length k0) && pair_fits rule m k1 v

-- the pair there is taken out, with its row where it was the only one
abbrev pub del_at : Rows → Place → Rows
del_at m (Pair i j) = cond (length (row_at m i) == 1) (remove m i)
    (set_value_at m i (remove (row_at m i) j))
del_at m (InRow i j) = m
del_at m (NewRow i) = m
