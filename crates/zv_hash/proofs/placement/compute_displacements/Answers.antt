use Rattle.zv_hash.proofs.Common.{◌≡◌, arith, length}
use Rattle.std.proofs.Math.Seq.{take-append_seam}
use Rattle.zv_hash.proofs.Permutations.{different_permuted}
use Rattle.zv_hash.proofs.Stuck.{chosen_not_stuck}
use Rattle.zv_hash.proofs.placement.compute_displacements.Goals as goal

pub returns-clause-unstuck : goal.returns-clause-unstuck
returns-clause-unstuck c _ = chosen_not_stuck c.in_ok-place_hashes.ensures.0

pub returns-clause-permutation : goal.returns-clause-permutation
returns-clause-permutation c =
    let placed = c.in_ok-place_hashes.ensures.1 in
    let len : c.in_ok-reverse_mapping.reverse_mapping.len ≡ length c.place_hashes.new.places = omega (arith, placed.len, c.in_ok-reverse_mapping.ensures.len) in
    rw (len, take-append_seam) (different_permuted _ _ placed.len placed.within placed.distinct)
