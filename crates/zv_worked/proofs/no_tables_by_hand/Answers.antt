use Rattle.std.proofs.Common.{[], ◌∷◌, refl, arith}
use Rattle.std.proofs.lemmas.Grind.{common_steps}
use Rattle.std.specs.Cmp.Lexicographic.{slice_cmp}
use Rattle.std.specs.Ordering.{nat_cmp}
use Rattle.zv_xxhash.specs.Digest.{xxh64}
use Rattle.zv_hash.specs.Splitting.{bucket_of, slot_of}
use Rattle.zv_hash.proofs.Decide.{chosen, stuck}
use Rattle.zv_hashmap.specs.Building.{AreApartBelow}
use Rattle.zv_worked.proofs.no_tables_by_hand.Goals as goal

-- the keys 1 and 2 differ
apart : AreApartBelow (slice_cmp nat_cmp) ((1 ∷ []) ∷ (2 ∷ []) ∷ []) 2
apart = grind (arith, common_steps)

pub returns-clause-stuck : goal.returns-clause-stuck
unfolding bucket_of slot_of xxh64
returns-clause-stuck c = (omega arith, refl, apart, (stuck _ [] _).1 refl)

-- their buckets both have (0, 1)
pub returns-clause-not_stuck : goal.returns-clause-not_stuck
unfolding bucket_of slot_of xxh64
returns-clause-not_stuck c bucket h =
    c.stuck_bucket.ensures.none _ ((0, 1) ∷ (0, 1) ∷ []) bucket ((chosen _ _).1 refl) h.3
