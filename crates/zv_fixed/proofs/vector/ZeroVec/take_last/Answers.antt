use Rattle.std.proofs.Common.{rules}
use Rattle.zv_fixed.proofs.ChunkEdits.{last_of}
use Rattle.zv_fixed.proofs.vector.ZeroVec.take_last.Goals as goal

pub returns-clause-taken : goal.returns-clause-taken
returns-clause-taken g c = search (rules, last_of)
