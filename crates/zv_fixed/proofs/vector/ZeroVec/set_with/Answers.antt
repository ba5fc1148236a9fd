use Rattle.std.proofs.Common.{rules, ap}
use Rattle.zv_fixed.proofs.ChunkEdits.{end_within, one_chunk, replaced_good, replaced_chunks, replaced_values}
use Rattle.zv_fixed.proofs.vector.ZeroVec.set_with.Goals as goal

pub set-requires-clause-place : goal.set-requires-clause-place
set-requires-clause-place g c =
    let same = ap (λ v. v.bytes) c.self.view_is in
    let one = one_chunk g.met.T.AsULE.kind _ c.arg_len.ensures.spells in search (rules, end_within g.T.ULE.ULE.width c.args.index)

pub invariant_of-self : goal.invariant_of-self
invariant_of-self g c = let one = one_chunk g.met.T.AsULE.kind _ c.arg_len.ensures.spells in (c.self.invariant.0, search (rules, replaced_good))

pub returns-clause-ok : goal.returns-clause-ok
returns-clause-ok g c = let one = one_chunk g.met.T.AsULE.kind _ c.arg_len.ensures.spells in search (rules, replaced_chunks)

pub returns-clause-values : goal.returns-clause-values
returns-clause-values g c = let one = one_chunk g.met.T.AsULE.kind _ c.arg_len.ensures.spells in search (rules, replaced_values)
