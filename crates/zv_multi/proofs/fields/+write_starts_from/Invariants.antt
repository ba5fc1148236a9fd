use Rattle.std.proofs.Common.{length}
use Rattle.zv_multi.proofs.fields.+write_starts_from.Given as goal

abbrev pub decreases-write_starts_from : goal.decreases-write_starts_from
decreases-write_starts_from g l = length l.lengths.now
