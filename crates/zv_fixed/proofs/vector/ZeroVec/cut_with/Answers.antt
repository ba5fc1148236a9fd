use Rattle.std.proofs.Common.{rules, ap}
use Rattle.zv_fixed.proofs.ChunkEdits.{end_within, removed_good, removed_chunks, removed_values}
use Rattle.zv_fixed.proofs.vector.ZeroVec.cut_with.Goals as goal

pub remove-requires-clause-place : goal.remove-requires-clause-place
remove-requires-clause-place g c = let same = ap (λ v. v.bytes) c.self.view_is in search (rules, end_within g.T.ULE.ULE.width c.args.index)

pub invariant_of-self : goal.invariant_of-self
invariant_of-self g c = (c.self.invariant.0, search (rules, removed_good))

pub returns-clause-chunks : goal.returns-clause-chunks
returns-clause-chunks g c = search (rules, removed_chunks)

pub returns-clause-ok : goal.returns-clause-ok
returns-clause-ok g c = search (rules, removed_values)
