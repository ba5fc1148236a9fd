-- What is seen of a map.
use Rattle.std.specs.Prelude.{◌≡◌, ℕ, Bool, false, true, List, [], IsTrue, Option, map}
use Rattle.std.specs.List.{flat_map, range_with_len}
use Rattle.zv_ule.specs.Bytes.{le}
use Rattle.zv_ule.specs.declared.error.UleError.{UleError}
use Rattle.zv_map2d.specs.Frame.{Parts}
use Rattle.zv_map2d.specs.Keys.{Bytes, Order, nth}
use Rattle.zv_map2d.specs.Rows.{Rows, firsts, seconds, values, ends, rows_of, row_at, IsFlat}
use Rattle.zv_map2d.specs.Rows.{IsWell}
use Rattle.zv_map.specs.Layouts.{encoding_in, list_in, spells_in}
pub use Rattle.zv_map.specs.Vectors.{Vector, KeepsItsRoom}
use Rattle.zv_map.specs.declared.view.Layout.{Layout}
use Rattle.zv_map2d.specs.declared.map.Parts.{Parts as PartsRead}

-- a map: its rows, and its vectors
pub record Map2d : Type 0 where
  pub rows : Rows
  pub keys0 : Vector
  pub joiner : Vector
  pub keys1 : Vector
  pub values : Vector

-- a row of a map, as a cursor sees it: its first key, its pairs of a second key and a value, the
-- map and its place in it
pub record Row : Type 0 where
  pub key : Bytes
  pub pairs : List (Bytes × Bytes)
  pub rows : Rows
  pub place : ℕ

-- row i of a map
abbrev pub row_seen : Rows → ℕ → Row
row_seen m i = record { key = nth (firsts m) i; pairs = row_at m i; rows = m; place = i }

-- n rows of a map, from row i on
abbrev pub rows_seen : Rows → ℕ → ℕ → List Row
rows_seen m i n = map (row_seen m) (range_with_len i n)

-- the bytes of a map's vectors
abbrev pub parts_of : Map2d → Parts
parts_of m = record {
  keys0 = m.keys0.bytes;
  joiner = m.joiner.bytes;
  keys1 = m.keys1.bytes;
  values = m.values.bytes;
}

-- the bytes of no pairs
abbrev pub no_bytes : Parts
no_bytes = record { keys0 = []; joiner = []; keys1 = []; values = [] }

-- the bytes that are read
abbrev pub bytes_of : PartsRead → Parts
bytes_of p = record {
  keys0 = p.keys0.now;
  joiner = p.joiner.now;
  keys1 = p.keys1.now;
  values = p.values.now;
}

-- all vectors borrow their bytes
abbrev pub IsBorrowed : Map2d → Type 0
IsBorrowed m = (m.keys0.owned ≡ false) × (m.joiner.owned ≡ false) × (m.keys1.owned ≡ false)
    × (m.values.owned ≡ false)

-- no vector can grow without memory
abbrev pub HasNoSpare : Map2d → Type 0
HasNoSpare m = (m.keys0.spare ≡ 0) × (m.joiner.spare ≡ 0) × (m.keys1.spare ≡ 0)
    × (m.values.spare ≡ 0)

-- the lists of the map are in layouts of which these tests say yes
pub record AreInLayouts (has0 has1 has2 : Layout → Bool) (m : Map2d) : Type 0 where
  pub keys0 : has0 m.keys0.layout ≡ true
  pub keys1 : has1 m.keys1.layout ≡ true
  pub values : has2 m.values.layout ≡ true

-- the lists of the map are in the layouts that these choose
pub record AreSettled (settled0 settled1 settled2 : List Bytes → Layout) (m : Map2d) : Type 0 where
  pub keys0 : m.keys0.layout ≡ settled0 (firsts m.rows)
  pub keys1 : m.keys1.layout ≡ settled1 (seconds m.rows)
  pub values : m.values.layout ≡ settled2 (values m.rows)

-- the lists of two maps are in the same layouts
pub record AreInLayoutsOf (m n : Map2d) : Type 0 where
  pub keys0 : n.keys0.layout ≡ m.keys0.layout
  pub keys1 : n.keys1.layout ≡ m.keys1.layout
  pub values : n.values.layout ≡ m.values.layout

-- the same map in the same bytes and layouts, each vector borrowed or owned as it was
pub record IsCopy (before after : Map2d) : Type 0 where
  pub rows : after.rows ≡ before.rows
  pub parts : parts_of after ≡ parts_of before
  pub layouts : AreInLayoutsOf before after
  pub keys0 : after.keys0.owned ≡ before.keys0.owned
  pub joiner : after.joiner.owned ≡ before.joiner.owned
  pub keys1 : after.keys1.owned ≡ before.keys1.owned
  pub values : after.values.owned ≡ before.values.owned

-- bytes spell the list in the layout, and each element is one by its fault
pub record ReadsAs (layout : Layout) (fault : Bytes → Option UleError) (bytes : List ℕ)
    (xs : List Bytes) : Type 0 where
  pub sound : IsTrue (spells_in layout fault bytes)
  pub list : list_in layout bytes ≡ xs

-- each vector owns its bytes exactly if it did before, and can grow by as much at least
pub record KeepsRoom (before after : Map2d) : Type 0 where
  pub keys0 : KeepsItsRoom before.keys0 after.keys0
  pub joiner : KeepsItsRoom before.joiner after.joiner
  pub keys1 : KeepsItsRoom before.keys1 after.keys1
  pub values : KeepsItsRoom before.values after.values

-- the parts of a map whose first keys, second keys and values are written by these
abbrev pub written_parts : (List Bytes → List ℕ) → (List Bytes → List ℕ) →
    (List Bytes → List ℕ) → Rows → Parts
written_parts write0 write1 write2 m = record {
  keys0 = write0 (firsts m);
  joiner = flat_map (le 4) (ends m);
  keys1 = write1 (seconds m);
  values = write2 (values m);
}

-- the parts of a map whose lists are written in the layouts that they have
abbrev pub written_of : Map2d → Parts
written_of m =
    written_parts (encoding_in m.keys0.layout) (encoding_in m.keys1.layout)
    (encoding_in m.values.layout) m.rows

-- four lists of elements of usable kinds are those of the map that they stand for, which is well
-- formed
pub record AreColumns (usable0 usable1 usable2 : Bool) (order0 order1 : Order) (k0s : List Bytes)
    (es : List ℕ) (k1s vs : List Bytes) : Type 0 where
  pub keys0 : IsTrue usable0
  pub keys1 : IsTrue usable1
  pub values : IsTrue usable2
  pub flat : IsFlat k0s es k1s vs (rows_of k0s es k1s vs)
  pub well : IsWell order0 order1 (rows_of k0s es k1s vs)
