use Rattle.zv_hash.proofs.Common.{◌-◌, arith}
use Rattle.zv_hash.proofs.Fillings.{turn_passed}
use Rattle.zv_hash.proofs.placement.place_all_of.Goals as goal

pub loop-bucket-preserved : goal.loop-bucket-preserved
loop-bucket-preserved c = record {
  within = omega arith;
  filled = turn_passed (omega arith) (λ same. absurd (omega (arith, c.requires.sizes (c.loop-bucket.bucket - 1)))) c.loop-bucket.invariant.filled;
}
