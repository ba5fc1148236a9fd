use Rattle.std.proofs.Common.{rules}
use Rattle.zv_ule.proofs.Lists.{read_list}
use Rattle.zv_ule.specs.laws.Spellings.{through_twin}
use Rattle.zv_forms.proofs.laws.values_are_valid.Goals as goal

pub returns : goal.returns
returns g c = (read_list (through_twin g.met.T.AsULE.twin g.met.T.ULE.ULE.spelling) g.T.ULE.ULE.TY c.args._bytes.now (search rules) c.requires).values
