use Rattle.zv_map.proofs.Common.{rules}
use Rattle.zv_map.specs.Laws.{written_is}
use Rattle.zv_map.proofs.view.encoding_of.Goals as goal

pub returns : goal.returns
returns g c = written_is g.T.ZvKind.fault c.args.bytes.now (search rules) c.args._layout c.requires.spells c.requires.some
