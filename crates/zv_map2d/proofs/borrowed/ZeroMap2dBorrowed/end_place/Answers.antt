use Rattle.zv_map2d.proofs.Common.{arith, rules}
use Rattle.zv_map2d.proofs.Ends.{new_row_at_end, some_at_end}
use Rattle.zv_map2d.proofs.borrowed.ZeroMap2dBorrowed.end_place.Goals as goal

pub returns-in-Equal-clause-place : goal.returns-in-Equal-clause-place
returns-in-Equal-clause-place g c =
    some_at_end g.met.K0.ZvOrd.total g.met.K1.ZvOrd.total _ _ _ c.args.self.now.well c.in-Some.last (omega arith) c.end_of_row.result (search rules)
    c.end_of_row.ensures.above c.end_of_row.ensures.place

pub returns-in-Greater-clause-place : goal.returns-in-Greater-clause-place
returns-in-Greater-clause-place g c =
    new_row_at_end g.met.K0.ZvOrd.total g.met.K1.ZvOrd.total _ _ (g.Q1.ZvArg.bytes c.args.key1.now) c.args.self.now.well c.in-Some.last (omega arith) _
    c.rows-rows.ensures (search rules)
