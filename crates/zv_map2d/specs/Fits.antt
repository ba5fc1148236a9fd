-- Which new values a map takes, by the size rules of its lists.
use Rattle.std.specs.Prelude.{ℕ, ◌+◌, Bool, ◌&&◌, List, length, Option, Some, None}
use Rattle.std.specs.declared.cmp.Ordering.{Ordering}
use Rattle.zv_owned.specs.Size.{takes_insert, takes_replace}
use Rattle.zv_map2d.specs.Keys.{Bytes, nth}
use Rattle.zv_map.specs.Maps.{look_up, rank}
use Rattle.zv_map2d.specs.Rows.{Rows, firsts, seconds, values, row, find, before}
use Rattle.zv_map2d.specs.Image.{by_bytes}

-- the size rules of a map's lists: whether an element of so many bytes may join the first keys, the
-- second keys, the values, and whether one may stand in place of the value at a place
pub record Rule : Type 0 where
  pub takes0 : List Bytes → ℕ → Bool
  pub takes1 : List Bytes → ℕ → Bool
  pub takes2 : List Bytes → ℕ → Bool
  pub replaces : List Bytes → ℕ → ℕ → Bool

-- the rule of these
abbrev pub rule_of : (List Bytes → ℕ → Bool) → (List Bytes → ℕ → Bool) → (List Bytes → ℕ → Bool) →
    (List Bytes → ℕ → ℕ → Bool) → Rule
rule_of takes0 takes1 takes2 replaces =
    record { takes0 = takes0; takes1 = takes1; takes2 = takes2; replaces = replaces }

-- where the value of the pair of keys stands, or would stand, among the values
abbrev pub place :
    (Bytes → Bytes → Ordering) → (Bytes → Bytes → Ordering) → Rows → Bytes → Bytes → ℕ
place order0 order1 m k0 k1 = before m (rank order0 m k0) + rank order1 (row order0 m k0) k1

-- the test of what was found, or else what holds where nothing was
abbrev pub if_found : {X : Type 0} → Option X → (X → Bool) → Bool → Bool
if_found (Some x) test missing = test x
if_found None test missing = missing

-- a new pair fits in a row: k1 among the second keys, and v among the values
abbrev pub pair_fits : Rule → Rows → Bytes → Bytes → Bool
pair_fits rule m k1 v = rule.takes1 (seconds m) (length k1) && rule.takes2 (values m) (length v)

-- v fits: in place of an old value, by a test of that, or with a new pair in the row that is there,
-- or with a new row; a key that is there is not measured
abbrev pub fits_by : (Bytes → Bool) → Rule →
    (Bytes → Bytes → Ordering) → (Bytes → Bytes → Ordering) → Rows → Bytes → Bytes → Bytes → Bool
fits_by replaces rule order0 order1 m k0 k1 v =
    if_found (find order0 order1 m k0 k1) replaces
    (if_found (look_up order0 m k0) (λ r. pair_fits rule m k1 v)
    (rule.takes0 (firsts m) (length k0) && pair_fits rule m k1 v))

-- v fits, by the rules of the lists
abbrev pub fits : Rule →
    (Bytes → Bytes → Ordering) → (Bytes → Bytes → Ordering) → Rows → Bytes → Bytes → Bytes → Bool
fits rule order0 order1 m k0 k1 v =
    fits_by (λ old. rule.replaces (values m) (place order0 order1 m k0 k1) (length v))
    rule order0 order1 m k0 k1 v

-- the size rules of a map from two texts to bytes, whose lists have fields of w bytes
abbrev pub texts_rule_in : ℕ → Rule
texts_rule_in w = record {
  takes0 = takes_insert w;
  takes1 = takes_insert w;
  takes2 = takes_insert w;
  replaces = λ xs i n. takes_replace w xs (length (nth xs i)) n;
}

-- v fits in such a map, by the length of the old value
abbrev pub fits_texts_in : ℕ → Rows → Bytes → Bytes → Bytes → Bool
fits_texts_in w m k0 k1 v =
    fits_by (λ old. takes_replace w (values m) (length old) (length v))
    (texts_rule_in w) by_bytes by_bytes m k0 k1 v

-- the size rules of the map of an image
abbrev pub texts_rule : Rule
texts_rule = texts_rule_in 4

-- v fits in the map of an image
abbrev pub fits_texts : Rows → Bytes → Bytes → Bytes → Bool
fits_texts m k0 k1 v = fits_texts_in 4 m k0 k1 v
