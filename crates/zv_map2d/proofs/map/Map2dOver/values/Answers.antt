use Rattle.zv_map2d.proofs.Seen.{seen}
use Rattle.zv_map2d.proofs.map.Map2dOver.values.Goals as goal

pub returns-clause-list : goal.returns-clause-list
returns-clause-list g c = (seen c.self.view_is c.self.invariant).values_are
