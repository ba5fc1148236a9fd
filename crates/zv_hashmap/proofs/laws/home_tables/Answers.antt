use Rattle.std.proofs.lemmas.List.Sorted.{IsPermutation-refl}
use Rattle.zv_hashmap.proofs.Lookups.{answers}
use Rattle.zv_hashmap.proofs.laws.home_tables.Goals as goal

pub returns : goal.returns
returns g c t long home = answers g.K.ZvOrd.cmp g.met.K.ZvOrd.total g.K.HashBytes.hashed g.met.K.HashBytes.alike t long home _ (IsPermutation-refl _)
