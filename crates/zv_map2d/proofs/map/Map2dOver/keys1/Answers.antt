use Rattle.zv_map2d.proofs.Seen.{seen}
use Rattle.zv_map2d.proofs.map.Map2dOver.keys1.Goals as goal

pub returns-clause-list : goal.returns-clause-list
returns-clause-list g c = (seen c.self.view_is c.self.invariant).seconds_are
