use Rattle.zv_map.proofs.Common.{rules}
use Rattle.zv_map.specs.Elements.{elements_valid}
use Rattle.zv_map.proofs.laws.bytes_are_valid.Goals as goal

pub returns : goal.returns
returns g c = elements_valid g.T.ZvKind.fault c.args._layout c.args._bytes.now (search rules) c.requires
