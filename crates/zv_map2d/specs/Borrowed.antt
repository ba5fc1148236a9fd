-- What a borrowed map stands for.
use Rattle.std.specs.Prelude.{◌≡◌, ◌==◌, ◌||◌, Bool, true, length}
use Rattle.zv_ule.specs.declared.kind.ZvKind.{Ghosts as KindGhosts}
use Rattle.zv_ule.specs.declared.kind.ZvOrd.{Ghosts as OrdGhosts}
use Rattle.zv_fixed.specs.Views.{bytes_of as joiner_bytes, values_in}
use Rattle.zv_map.specs.Views.{bytes_of, list_of}
use Rattle.zv_map.specs.declared.view.Layout.{Layout}
use Rattle.zv_map.specs.declared.view.KvSlice.{KvSlice}
use Rattle.zv_map2d.specs.Frame.{Parts}
use Rattle.zv_map2d.specs.Rows.{Rows, rows_of}
use Rattle.zv_map2d.specs.Views.{Map2d}
use Rattle.zv_map2d.specs.declared.borrowed.ZeroMap2dBorrowed.{ZeroMap2dBorrowed}

module _ {K0 K1 V : Type 0} {ord0 : OrdGhosts K0} {kind0 : KindGhosts K0} {ord1 : OrdGhosts K1}
    {kind1 : KindGhosts K1} {value : KindGhosts V} where
  -- the rows
  abbrev pub rows_in : ZeroMap2dBorrowed K0 K1 V ord0 kind0 ord1 kind1 value → Rows
  rows_in b = rows_of (list_of b.keys0) (values_in b.joiner) (list_of b.keys1) (list_of b.values)

  -- the bytes of the four views
  abbrev pub parts_in : ZeroMap2dBorrowed K0 K1 V ord0 kind0 ord1 kind1 value → Parts
  parts_in b = record {
    keys0 = bytes_of b.keys0;
    joiner = joiner_bytes b.joiner;
    keys1 = bytes_of b.keys1;
    values = bytes_of b.values;
  }

  -- the views are in the layouts of the map's lists
  pub record IsViewedIn (m : Map2d) (b : ZeroMap2dBorrowed K0 K1 V ord0 kind0 ord1 kind1 value) :
      Type 0 where
    pub keys0 : b.keys0.layout ≡ m.keys0.layout
    pub keys1 : b.keys1.layout ≡ m.keys1.layout
    pub values : b.values.layout ≡ m.values.layout

  -- the views are in layouts of which these tests say yes
  pub record AreTaken (has0 has1 has2 : Layout → Bool)
      (b : ZeroMap2dBorrowed K0 K1 V ord0 kind0 ord1 kind1 value) : Type 0 where
    pub keys0 : has0 b.keys0.layout ≡ true
    pub keys1 : has1 b.keys1.layout ≡ true
    pub values : has2 b.values.layout ≡ true

-- a container whose layouts these are takes a view: one with no bytes, or one in such a layout
abbrev pub is_taken : {T : Type 0} {kind : KindGhosts T} → (Layout → Bool) → KvSlice T kind → Bool
is_taken has_layout v = length (bytes_of v) == 0 || has_layout v.layout
