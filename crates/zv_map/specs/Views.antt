-- What a view of a container stands for.
use Rattle.std.specs.Prelude.{ℕ, List}
use Rattle.zv_ule.specs.declared.kind.ZvKind.{Ghosts as KindGhosts}
use Rattle.zv_map.specs.Layouts.{list_in}
use Rattle.zv_map.specs.declared.view.KvSlice.{KvSlice}

module _ {T : Type 0} {kind : KindGhosts T} where
  -- the given bytes
  abbrev pub bytes_of : KvSlice T kind → List ℕ
  bytes_of v = v.bytes.now

  -- the elements, each as its bytes
  abbrev pub list_of : KvSlice T kind → List (List ℕ)
  list_of v = list_in v.layout v.bytes.now
