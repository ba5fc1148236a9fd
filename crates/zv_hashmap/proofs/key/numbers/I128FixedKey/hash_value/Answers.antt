use Rattle.std.proofs.lemmas.Int.{to_z-of_z}
use Rattle.std.specs.Int.{w128}
use Rattle.zv_hashmap.proofs.key.numbers.I128FixedKey.hash_value.Goals as goal

pub returns-clause-written : goal.returns-clause-written
returns-clause-written c =
    rw (← to_z-of_z w128 c.args.self c.ranges.self, ← c.cast_unsigned.ensures, ← c.to_le_bytes.ensures) c.write.ensures
