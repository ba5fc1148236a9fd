use Rattle.zv_ule.proofs.Common.{sym}
use Rattle.zv_ule.proofs.Lists.{singles}
use Rattle.zv_ule.proofs.fixed.slice_as_ule.U8SliceAsULE.slice_to_unaligned.Goals as goal

pub returns-clause-same : goal.returns-clause-same
returns-clause-same c = sym (singles c.args.slice.now)
