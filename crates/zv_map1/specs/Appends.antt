-- Pairs that are put at the end of a map.
use Rattle.std.specs.Prelude.{◌-◌, Bool, true, cond, [], ◌∷◌, ◌++◌, length, slice_get}
use Rattle.std.specs.Option.{option_map_or}
use Rattle.std.specs.Ordering.{is_lt}
use Rattle.zv_map1.specs.Views.{Bytes, Order, Pairs, keys_of}

-- the key is above the last of the map's keys, or there is none
abbrev pub is_above : Order → Pairs → Bytes → Bool
is_above order m k =
    option_map_or (λ last. is_lt (order last k)) (slice_get (keys_of m) (length m - 1)) true

-- the pair is put at the end where its key is above all
abbrev pub appended : Order → Pairs → Bytes → Bytes → Pairs
appended order m k v = cond (is_above order m k) (m ++ (k, v) ∷ []) m
