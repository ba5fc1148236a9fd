use Rattle.zv_map1.proofs.Common.{◌≡◌, [], drop, all_fit, insert_all, written, rule_of}
use Rattle.zv_map1.proofs.map.MapOver.try_from_pairs.Given as goal

abbrev pub invariant-loop-pair : goal.invariant-loop-pair
invariant-loop-pair g l = record {
  pairs : insert_all g.K.ZvOrd.cmp l.map.pairs (written g.A.ZvArg.bytes g.B.ZvArg.bytes (drop l.pair-index l.pairs))
      ≡ insert_all g.K.ZvOrd.cmp [] (written g.A.ZvArg.bytes g.B.ZvArg.bytes l.pairs);
  fits : all_fit (rule_of g.C.ZvContainer.takes_insert g.D.ZvContainer.takes_insert g.D.ZvContainer.takes_replace) g.K.ZvOrd.cmp l.map.pairs
      (written g.A.ZvArg.bytes g.B.ZvArg.bytes (drop l.pair-index l.pairs))
      ≡ all_fit (rule_of g.C.ZvContainer.takes_insert g.D.ZvContainer.takes_insert g.D.ZvContainer.takes_replace) g.K.ZvOrd.cmp []
      (written g.A.ZvArg.bytes g.B.ZvArg.bytes l.pairs);
}
