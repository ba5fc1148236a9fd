use Rattle.zv_hash.proofs.Common.{arith}
use Rattle.zv_hash.proofs.Fillings.{none_filled, size_passed}
use Rattle.zv_hash.proofs.placement.place_all.Goals as goal

pub loop-wanted-init : goal.loop-wanted-init
loop-wanted-init c = none_filled c.requires.displacements c.requires.places (λ g h.
    omega (arith, c.requires.sizes g h, c.type_inv.sizes g, c.largest_up_to-wanted.ensures.largest g))

pub loop-wanted-preserved : goal.loop-wanted-preserved
loop-wanted-preserved c = size_passed (omega arith)
    (λ g h less. omega (arith, c.requires.sizes g h, c.largest_up_to-wanted-in-loop-wanted.ensures.largest g)) c.in_ok-place_all_of.ensures
