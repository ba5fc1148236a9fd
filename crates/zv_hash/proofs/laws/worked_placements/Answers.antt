use Rattle.zv_hash.proofs.Common.{[], refl}
use Rattle.zv_xxhash.specs.Digest.{xxh64}
use Rattle.zv_hash.specs.Splitting.{bucket_of, slot_of}
use Rattle.zv_hash.proofs.Decide.{chosen, stuck}
use Rattle.zv_hash.proofs.laws.worked_placements.Goals as goal

pub returns : goal.returns
unfolding bucket_of slot_of xxh64
returns c = record {
  one = (chosen _ _).1 refl;
  equal = (stuck _ [] _).1 refl;
  one_bucket = (chosen _ _).1 refl;
  higher_first = (chosen _ _).1 refl;
  larger_first = (chosen _ _).1 refl;
  same_slot = (stuck _ [] _).1 refl;
  key_hashes = refl;
  three_keys = (chosen _ _).1 refl;
  ten_keys = (chosen _ _).1 refl;
}
