use Rattle.std.proofs.Common.{rules}
use Rattle.zv_fixed.proofs.ChunkEdits.{kept_good, kept_values}
use Rattle.zv_fixed.proofs.vector.ZeroVec.keep.Goals as goal

pub invariant_of-self : goal.invariant_of-self
invariant_of-self g c = (c.self.invariant.0, search (rules, kept_good))

pub returns-clause-values : goal.returns-clause-values
returns-clause-values g c = search (rules, kept_values)
