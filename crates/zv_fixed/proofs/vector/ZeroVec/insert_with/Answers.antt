use Rattle.std.proofs.Common.{rules}
use Rattle.zv_fixed.proofs.ChunkEdits.{one_chunk, inserted_good, inserted_chunks, inserted_values}
use Rattle.zv_fixed.proofs.vector.ZeroVec.insert_with.Goals as goal

pub invariant_of-self : goal.invariant_of-self
invariant_of-self g c = let one = one_chunk g.met.T.AsULE.kind _ c.insert.ensures.spells in (c.self.invariant.0, search (rules, inserted_good))

pub returns-clause-ok : goal.returns-clause-ok
returns-clause-ok g c = let one = one_chunk g.met.T.AsULE.kind _ c.insert.ensures.spells in search (rules, inserted_chunks)

pub returns-clause-values : goal.returns-clause-values
returns-clause-values g c = let one = one_chunk g.met.T.AsULE.kind _ c.insert.ensures.spells in search (rules, inserted_values)

pub returns-clause-long : goal.returns-clause-long
returns-clause-long g c = (one_chunk g.met.T.AsULE.kind _ c.insert.ensures.spells).0
