-- Which new values a map takes, by the size rules of its lists.
use Rattle.std.specs.Prelude.{ℕ, Bool, ◌&&◌, List, length}
use Rattle.std.specs.Option.{option_map_or}
use Rattle.zv_map.specs.Maps.{rank}
use Rattle.zv_map1.specs.Views.{Bytes, Order, Pairs, keys_of, look_up, values_of}

-- the size rules of a map's lists: whether an element of so many bytes may join the keys, or the
-- values, and whether one may stand in place of the value at a place
pub record Rule : Type 0 where
  pub takes_key : List Bytes → ℕ → Bool
  pub takes_value : List Bytes → ℕ → Bool
  pub replaces : List Bytes → ℕ → ℕ → Bool

-- the rule of these
abbrev pub rule_of :
    (List Bytes → ℕ → Bool) → (List Bytes → ℕ → Bool) → (List Bytes → ℕ → ℕ → Bool) → Rule
rule_of takes_key takes_value replaces =
    record { takes_key = takes_key; takes_value = takes_value; replaces = replaces }

-- a new pair fits: its key among the keys, and its value among the values
abbrev pub pair_fits : Rule → Pairs → Bytes → Bytes → Bool
pair_fits rule m k v =
    rule.takes_key (keys_of m) (length k) && rule.takes_value (values_of m) (length v)

-- v fits: in place of the value that k has, or with a new pair; a key that is there is not measured
abbrev pub fits : Rule → Order → Pairs → Bytes → Bytes → Bool
fits rule order m k v =
    option_map_or (λ old. rule.replaces (values_of m) (rank order m k) (length v))
    (look_up order m k) (pair_fits rule m k v)
