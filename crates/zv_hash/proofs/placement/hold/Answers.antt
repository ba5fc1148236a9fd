use Rattle.zv_hash.proofs.Common.{arith, common_steps}
use Rattle.zv_hash.proofs.Links.{walk_on}
use Rattle.zv_hash.proofs.placement.hold.Goals as goal

pub loop-place-preserved : goal.loop-place-preserved
loop-place-preserved c =
    let old = c.loop-place.invariant in
    record {
      len = grind (arith, common_steps);
      walk = walk_on c.args.chains.linked c.loop-place-test.true old.walk
          (λ i m less held. let apart = c.requires.fits.distinct i c.loop-place.place m in grind (arith, common_steps)) (λ here. grind (arith, common_steps));
      others = λ t. let here = old.walk.member in grind (arith, common_steps, old.others t);
    }
