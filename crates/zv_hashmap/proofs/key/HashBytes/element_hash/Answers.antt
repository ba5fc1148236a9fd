use Rattle.zv_hashmap.proofs.Common.{[]}
use Rattle.zv_hashmap.proofs.key.HashBytes.element_hash.Goals as goal

pub returns : goal.returns
returns g c = c.finish.ensures 0xAABBCCDD _ (c.hash_element.ensures 0xAABBCCDD [] c.with_seed-hasher.ensures)
