use Rattle.zv_hash.proofs.Common.{arith, common_steps}
use Rattle.zv_hash.proofs.chains.count_sizes.Goals as goal

pub loop-hash-preserved : goal.loop-hash-preserved
loop-hash-preserved c = record {
  len = grind (arith, common_steps);
  counts = λ g h. grind (arith, common_steps, c.loop-hash.invariant.counts g h);
}
