use Rattle.zv_map2d.proofs.Common.{◌≡◌, ◌-◌, length, arith, ap, rows_in, rows_seen}
use Rattle.zv_map2d.proofs.RowIters.{seen_all}
use Rattle.zv_map2d.proofs.borrowed.ZeroMap2dBorrowed.iter0.Goals as goal

pub returns-clause-rows : goal.returns-clause-rows
returns-clause-rows g c =
    let count : c.rows.result - 0 ≡ length (rows_in c.args.self.now) = omega (arith, c.rows.ensures) in
    rw count (seen_all (rows_in c.args.self.now))

pub returns-clause-seen : goal.returns-clause-seen
returns-clause-seen g c =
    let count : c.rows.result - 0 ≡ length (rows_in c.args.self.now) = omega (arith, c.rows.ensures) in
    ap (rows_seen (rows_in c.args.self.now) 0) count
