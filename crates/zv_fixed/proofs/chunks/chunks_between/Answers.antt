use Rattle.std.proofs.Common.{rules}
use Rattle.zv_fixed.proofs.ChunkEdits.{kept_good, kept_chunks}
use Rattle.zv_fixed.proofs.chunks.chunks_between.Goals as goal

pub returns-clause-chunks : goal.returns-clause-chunks
returns-clause-chunks g c = search (rules, kept_chunks)

pub returns-clause-spells : goal.returns-clause-spells
returns-clause-spells g c = search (rules, kept_good)
