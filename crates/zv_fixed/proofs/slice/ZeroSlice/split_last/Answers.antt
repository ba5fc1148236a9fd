use Rattle.std.proofs.Common.{rules}
use Rattle.zv_fixed.proofs.ChunkEdits.{last_of}
use Rattle.zv_fixed.proofs.slice.ZeroSlice.split_last.Goals as goal

pub returns : goal.returns
returns g c = search (rules, last_of)
