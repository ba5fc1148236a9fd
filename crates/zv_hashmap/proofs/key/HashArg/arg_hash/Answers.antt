use Rattle.zv_hashmap.proofs.Common.{[]}
use Rattle.zv_hashmap.proofs.key.HashArg.arg_hash.Goals as goal

pub returns : goal.returns
returns g c = c.finish.ensures 0xAABBCCDD _ (c.hash_arg.ensures 0xAABBCCDD [] c.with_seed-hasher.ensures)
