use Rattle.zv_map2d.proofs.Seen.{row_placed, seen, seen_well}
use Rattle.zv_map2d.proofs.map.Map2dOver.get0.Goals as goal

pub row_there-requires : goal.row_there-requires
row_there-requires g c =
    let flat = seen c.self.view_is c.self.invariant in
    let well = seen_well c.self.view_is c.self.invariant in
    rw c.as_borrowed.ensures.rows
    (row_placed flat g.met.K0.ZvOrd.total _ c.zvl_binary_search-place.result well.0 c.zvl_binary_search-place.ensures)
