use Rattle.zv_map2d.proofs.Common.{rules}
use Rattle.zv_map2d.proofs.Ends.{leads_on, refused_first}
use Rattle.zv_map2d.proofs.map.Map2dOver.try_from_triples.Goals as goal

pub returns-in_err-put-clause-refused : goal.returns-in_err-put-clause-refused
returns-in_err-put-clause-refused g c =
    refused_first g.A.ZvArg.bytes g.B.ZvArg.bytes g.C.ZvArg.bytes _ _ _ c.loop-triple-test.true c.triple-item.is c.loop-triple.invariant _ _ (search rules)
    c.in_err-put.ensures.refused

pub loop-triple-preserved : goal.loop-triple-preserved
loop-triple-preserved g c =
    leads_on g.A.ZvArg.bytes g.B.ZvArg.bytes g.C.ZvArg.bytes _ _ _ c.loop-triple-test.true c.triple-item.is c.loop-triple.invariant c.in_ok-put.ensures.rows
    c.in_ok-put.ensures.refused.0 c.in_ok-put.ensures.refused.1
