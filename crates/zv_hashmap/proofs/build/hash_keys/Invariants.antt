use Rattle.zv_hashmap.proofs.Common.{◌≡◌, take, hashes_of, list_of}
use Rattle.zv_hashmap.proofs.build.hash_keys.Given as goal

abbrev pub invariant-loop-place : goal.invariant-loop-place
invariant-loop-place g l = l.hashes.items ≡ hashes_of g.K.HashBytes.hashed (take l.place (list_of l.keys))
