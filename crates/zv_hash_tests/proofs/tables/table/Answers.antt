use Rattle.std.proofs.Common.{lit<, refl}
use Rattle.zv_hash_tests.proofs.tables.table.Goals as goal

pub try_from_pairs-requires : goal.try_from_pairs-requires
try_from_pairs-requires c κs = ((refl, tt), (refl, (refl, ((λ k d h. lit< tt), c.requires))))
