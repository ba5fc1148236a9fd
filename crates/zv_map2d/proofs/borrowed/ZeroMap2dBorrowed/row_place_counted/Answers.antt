use Rattle.zv_map2d.proofs.Common.{refl, arith}
use Rattle.zv_map2d.proofs.Seen.{all_answers, row_placed, rows_count}
use Rattle.zv_map2d.proofs.borrowed.ZeroMap2dBorrowed.row_place_counted.Goals as goal

pub unreachable-requires : goal.unreachable-requires
unreachable-requires g c = grind (arith, c.in-None.ensures.none.0 refl, rows_count c.args.self.now.flat)

pub returns-clause-place : goal.returns-clause-place
returns-clause-place g c =
    let b = c.args.self.now in
    row_placed b.flat g.met.K0.ZvOrd.total _ c.in-Some.place b.well.0
    (rw (← all_answers b.flat g.K0.ZvOrd.cmp _ c.rows.result c.rows.ensures) c.in-Some.ensures.found)
