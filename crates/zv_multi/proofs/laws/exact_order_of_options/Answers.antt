use Rattle.zv_multi.proofs.Exact.{same_options}
use Rattle.zv_multi.proofs.laws.exact_order_of_options.Goals as goal

pub returns : goal.returns
returns g c = same_options g.U.ZvKind.fault g.U.ZvOrd.cmp c.requires
