use Rattle.zv_map2d.proofs.Seen.{row_placed}
use Rattle.zv_map2d.proofs.borrowed.ZeroMap2dBorrowed.row_place.Goals as goal

pub returns : goal.returns
returns g c = let b = c.args.self.now in row_placed b.flat g.met.K0.ZvOrd.total _ c.zvl_binary_search.result b.well.0 c.zvl_binary_search.ensures
