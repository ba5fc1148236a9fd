-- What a borrowed map stands for.
use Rattle.std.specs.Prelude.{zip}
use Rattle.zv_ule.specs.declared.kind.ZvKind.{Ghosts as KindGhosts}
use Rattle.zv_ule.specs.declared.kind.ZvOrd.{Ghosts as OrdGhosts}
use Rattle.zv_map.specs.Views.{list_of}
use Rattle.zv_map1.specs.Views.{Pairs}
use Rattle.zv_map1.specs.declared.borrowed.ZeroMapBorrowed.{ZeroMapBorrowed}

-- the pairs of its keys and values
abbrev pub pairs_of : {K V : Type 0} {key : KindGhosts K} {order : OrdGhosts K}
    {value : KindGhosts V} → ZeroMapBorrowed K V order key value → Pairs
pairs_of b = zip (list_of b.keys) (list_of b.values)
