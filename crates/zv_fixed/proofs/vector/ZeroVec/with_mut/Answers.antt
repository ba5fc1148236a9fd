use Rattle.std.proofs.Common.{rules}
use Rattle.zv_fixed.proofs.vector.ZeroVec.with_mut.Goals as goal

pub returns-clause-ok : goal.returns-clause-ok
returns-clause-ok g c = (c.in_ok-to_vec.field-0, c.f-values.result.0, search rules, c.f-values.ensures, search rules)
