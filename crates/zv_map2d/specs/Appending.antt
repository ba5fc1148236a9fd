-- Pairs at the end of a map, and a map that is made of pairs.
use Rattle.std.specs.Prelude.{◌-◌, ◌==◌, ◌||◌, ◌&&◌, Bool, true, false, not, List, []}
use Rattle.std.specs.Prelude.{◌∷◌, length, map, Option, Some, None, is_none, cond}
use Rattle.std.specs.Prelude.{if◌then◌else◌}
use Rattle.std.specs.Option.{option_or}
use Rattle.std.specs.Ordering.{is_eq, is_gt, match_ordering}
use Rattle.zv_map.specs.Maps.{keys_of}
use Rattle.zv_map2d.specs.Fits.{Rule, fits}
use Rattle.zv_map2d.specs.Keys.{Bytes, Order, nth}
use Rattle.zv_map2d.specs.Refusals.{is_full}
use Rattle.zv_map2d.specs.Rows.{Rows, find, firsts, put, row_at}
use Rattle.zv_map2d.specs.declared.error.Map2dError.{Map2dError}
use Rattle.zv_map2d.specs.declared.error.Map2dError.TheVariants.{TooLarge, TooMany}

-- ---- the end of a map

-- the last of the keys
abbrev pub last_key : List Bytes → Bytes
last_key ks = nth ks (length ks - 1)

-- k is above the last of the keys
abbrev pub is_above_key : Order → List Bytes → Bytes → Bool
is_above_key order ks k = is_gt (order k (last_key ks))

-- the pair of keys is above the last pair: there is none, or k0 is above the last first key, or is
-- that key and k1 is above the last second key of its row
abbrev pub is_above : Order → Order → Rows → Bytes → Bytes → Bool
is_above order0 order1 m k0 k1 = length m == 0
    || match_ordering (order0 k0 (last_key (firsts m))) false
    (is_above_key order1 (keys_of (row_at m (length m - 1))) k1) true

-- ---- pairs one after another

-- a first key, a second key and a value
abbrev pub Triple : Type 0
Triple = Bytes × Bytes × Bytes

-- triples of arguments as the bytes that are written for them
abbrev pub written : {A B C : Type 0} → (A → Bytes) → (B → Bytes) → (C → Bytes) →
    List (A × B × C) → List Triple
written key0 key1 value ts = map (λ t. (key0 t.0, key1 t.1, value t.2)) ts

-- the map after values were put for pairs of keys, one after another
abbrev pub put_all : Order → Order → Rows → List Triple → Rows
put_all order0 order1 m [] = m
put_all order0 order1 m (t ∷ ts) = put_all order0 order1 (put order0 order1 m t.0 t.1 t.2) ts

-- what the last of the triples that have the pair of keys gives it, if there is one
abbrev pub last_given : Order → Order → List Triple → Bytes → Bytes → Option Bytes
last_given order0 order1 [] k0 k1 = None
last_given order0 order1 (t ∷ ts) k0 k1 = option_or (last_given order0 order1 ts k0 k1)
    (cond (is_eq (order0 t.0 k0) && is_eq (order1 t.1 k1)) (Some t.2) None)

-- why the first of the puts that is refused is: it doesn't fit, or it is new in a full map
abbrev pub first_refusal : Rule → Order → Order → Rows → List Triple → Option Map2dError
first_refusal rule order0 order1 m [] = None
first_refusal rule order0 order1 m (t ∷ ts) =
    if not (fits rule order0 order1 m t.0 t.1 t.2) then Some TooLarge
    else if is_none (find order0 order1 m t.0 t.1) && is_full m then Some TooMany
    else first_refusal rule order0 order1 (put order0 order1 m t.0 t.1 t.2) ts
