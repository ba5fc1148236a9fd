use Rattle.zv_map2d.proofs.Common.{◌∙◌}
use Rattle.zv_map2d.proofs.Seen.{value_is}
use Rattle.zv_map2d.proofs.borrowed.ZeroMap2dBorrowed.value_at.Goals as goal

pub returns : goal.returns
returns g c = c.get.ensures ∙ value_is c.args.self.now.flat c.requires.row c.requires.pair c.pair_start.ensures
