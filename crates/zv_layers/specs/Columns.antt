-- The lists of a map, as pairs and rows come to their ends.
use Rattle.std.specs.Prelude.{List, [], ◌∷◌, ◌++◌, length}
use Rattle.zv_map.specs.Maps.{keys_of, values_of}
use Rattle.zv_map2d.specs.Causes.{Lists}
use Rattle.zv_map2d.specs.Image.{by_bytes}
use Rattle.zv_map2d.specs.Keys.{Bytes}
use Rattle.zv_map2d.specs.Rows.{IsFlat, IsWell, Rows, ends, firsts, rows_of, seconds, values}

-- the lists of a map
abbrev pub columns_of : Rows → Lists
columns_of m =
    record { keys0 = firsts m; joiner = ends m; keys1 = seconds m; values = values m }

-- lists with pairs more
abbrev pub with_pairs : Lists → List (Bytes × Bytes) → Lists
with_pairs c ps = record {
  keys0 = c.keys0;
  joiner = c.joiner;
  keys1 = c.keys1 ++ keys_of ps;
  values = c.values ++ values_of ps;
}

-- lists with the end of a row, which has a first key and the pairs after the row before
abbrev pub with_end : Lists → Bytes → Lists
with_end c k0 = record {
  keys0 = c.keys0 ++ k0 ∷ [];
  joiner = c.joiner ++ length c.keys1 ∷ [];
  keys1 = c.keys1;
  values = c.values;
}

-- lists with a row more
abbrev pub with_row : Lists → Bytes × List (Bytes × Bytes) → Lists
with_row c r = with_end (with_pairs c r.1) r.0

-- the rows that lists stand for
abbrev pub rows_in : Lists → Rows
rows_in c = rows_of c.keys0 c.joiner c.keys1 c.values

-- lists are those of rows in order
pub record AreInOrder (c : Lists) : Type 0 where
  pub flat : IsFlat c.keys0 c.joiner c.keys1 c.values (rows_in c)
  pub well : IsWell by_bytes by_bytes (rows_in c)
