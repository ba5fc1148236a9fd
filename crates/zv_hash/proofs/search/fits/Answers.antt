use Rattle.zv_hash.proofs.Links.{walk_on}
use Rattle.zv_hash.proofs.search.fits.Goals as goal

pub loop-place-preserved : goal.loop-place-preserved
loop-place-preserved c = walk_on c.args.chains.linked c.loop-place-test.true c.loop-place.invariant (λ _ _ _ p. p)
    (λ _. rw (← c.slot-slot.ensures.slot) (c.if-places-slot.false, c.if-is_shared.ensures))
