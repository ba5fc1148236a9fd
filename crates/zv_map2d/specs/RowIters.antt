-- What an iterator over the rows of a map has left.
use Rattle.std.specs.Prelude.{◌-◌, List}
use Rattle.zv_ule.specs.declared.kind.ZvKind.{Ghosts as KindGhosts}
use Rattle.zv_ule.specs.declared.kind.ZvOrd.{Ghosts as OrdGhosts}
use Rattle.zv_map2d.specs.Borrowed.{rows_in}
use Rattle.zv_map2d.specs.Views.{Row, rows_seen}
use Rattle.zv_map2d.specs.declared.rows.ZeroMap2dIter0.{ZeroMap2dIter0}

-- the rows that are left
abbrev pub rows_left : {K0 K1 V : Type 0} {ord0 : OrdGhosts K0} {kind0 : KindGhosts K0}
    {ord1 : OrdGhosts K1} {kind1 : KindGhosts K1} {value : KindGhosts V} →
    ZeroMap2dIter0 K0 K1 V ord0 kind0 ord1 kind1 value → List Row
rows_left it = rows_seen (rows_in it.map) it.next (it.end - it.next)
