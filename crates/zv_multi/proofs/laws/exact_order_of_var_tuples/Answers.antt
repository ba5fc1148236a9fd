use Rattle.zv_multi.proofs.Exact.{same_var_tuples}
use Rattle.zv_multi.proofs.laws.exact_order_of_var_tuples.Goals as goal

pub returns : goal.returns
returns g c = same_var_tuples g.A.ULE.ULE.width g.A.ZvKind.fault g.V.ZvKind.fault g.A.ZvOrd.cmp g.V.ZvOrd.cmp c.requires.sized c.requires.variable
