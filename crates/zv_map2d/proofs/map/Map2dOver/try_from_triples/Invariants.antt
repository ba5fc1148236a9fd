use Rattle.zv_map2d.proofs.Common.{drop, written, rule_of}
use Rattle.zv_map2d.proofs.Ends.{LeadsTo}
use Rattle.zv_map2d.proofs.map.Map2dOver.try_from_triples.Given as goal

abbrev pub invariant-loop-triple : goal.invariant-loop-triple
invariant-loop-triple g l =
    let rule = rule_of g.C0.ZvContainer.takes_insert g.C1.ZvContainer.takes_insert g.D.ZvContainer.takes_insert g.D.ZvContainer.takes_replace in
    LeadsTo rule g.K0.ZvOrd.cmp g.K1.ZvOrd.cmp (written g.A.ZvArg.bytes g.B.ZvArg.bytes g.C.ZvArg.bytes l.triples)
    (written g.A.ZvArg.bytes g.B.ZvArg.bytes g.C.ZvArg.bytes (drop l.triple-index l.triples)) l.map.rows
