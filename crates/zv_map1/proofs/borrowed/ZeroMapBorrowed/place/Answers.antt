use Rattle.zv_map1.proofs.Common.{placed}
use Rattle.zv_map1.proofs.Zipped.{keys_in}
use Rattle.zv_map1.proofs.borrowed.ZeroMapBorrowed.place.Goals as goal

pub returns : goal.returns
returns g c = rw (keys_in c.args.self) (placed g.met.K.ZvOrd.total _ _ c.args.self.ascending _ c.zvl_binary_search.ensures)
