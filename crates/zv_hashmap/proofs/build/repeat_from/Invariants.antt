use Rattle.zv_hashmap.proofs.Common.{AreApartBelow, list_of}
use Rattle.zv_hashmap.proofs.build.repeat_from.Given as goal

abbrev pub invariant-loop-second : goal.invariant-loop-second
invariant-loop-second g l = AreApartBelow g.K.ZvOrd.cmp (list_of l.keys) l.second
