-- The maps and tables that are read from parts: their lists are those of the parts, whose bytes
-- they borrow.
use Rattle.std.specs.Prelude.{◌≡◌, ℕ, false, List, zip}
use Rattle.zv_map.specs.Keys.{nth}
use Rattle.zv_map.specs.Vectors.{Vector}
use Rattle.zv_map1.specs.Views.{Map1}
use Rattle.zv_map2d.specs.Causes.{Reading, Readings, rows_read}
use Rattle.zv_map2d.specs.Views.{IsBorrowed, Map2d, parts_of}
use Rattle.zv_hashmap.specs.Table.{Table}
use Rattle.zv_framed.specs.Faults.{four_parts}
use Rattle.zv_framed.specs.Displacements.{displacements_in}

-- a vector borrows these bytes
abbrev pub Borrows : Vector → List ℕ → Type 0
Borrows v bytes = (v.bytes ≡ bytes) × (v.owned ≡ false)

pub record IsReadMap (keys values : Reading) (parts : List (List ℕ)) (m : Map1) : Type 0 where
  pub pairs : m.pairs ≡ zip (keys.list (nth parts 0)) (values.list (nth parts 1))
  pub key_bytes : Borrows m.keys (nth parts 0)
  pub value_bytes : Borrows m.values (nth parts 1)

pub record IsReadMap2d (r : Readings) (parts : List (List ℕ)) (m : Map2d) : Type 0 where
  pub rows : m.rows ≡ rows_read r (four_parts parts)
  pub bytes : parts_of m ≡ four_parts parts
  pub borrowed : IsBorrowed m

pub record IsReadTable (ks vs : Reading) (parts : List (List ℕ)) (t : Table) : Type 0 where
  pub displacements : t.displacements ≡ displacements_in (nth parts 0)
  pub keys : t.keys ≡ ks.list (nth parts 1)
  pub values : t.values ≡ vs.list (nth parts 2)
  pub displacement_bytes : Borrows t.displacement_vector (nth parts 0)
  pub key_bytes : Borrows t.key_vector (nth parts 1)
  pub value_bytes : Borrows t.value_vector (nth parts 2)

-- the displacements, keys and values of two tables are the same
pub record IsSameTable (t u : Table) : Type 0 where
  pub displacements : u.displacements ≡ t.displacements
  pub keys : u.keys ≡ t.keys
  pub values : u.values ≡ t.values
