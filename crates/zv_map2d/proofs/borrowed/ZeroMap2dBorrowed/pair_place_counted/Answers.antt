use Rattle.zv_map2d.proofs.Common.{refl}
use Rattle.zv_map2d.proofs.Seen.{in_range, pair_placed, row_size}
use Rattle.zv_map2d.proofs.borrowed.ZeroMap2dBorrowed.pair_place_counted.Goals as goal

pub unreachable-requires : goal.unreachable-requires
unreachable-requires g c = in_range c.args.self.now.flat c.requires.row c.row_start-start.ensures c.row_end-end.ensures (c.in-None.ensures.none.0 refl)

pub returns-clause-place : goal.returns-clause-place
returns-clause-place g c =
    pair_placed c.args.self.now.flat c.requires.row c.row_start-start.ensures c.row_end-end.ensures g.met.K1.ZvOrd.total _ c.in-Some.place
    c.args.self.now.well.1 c.in-Some.ensures.found

pub returns-clause-digits : goal.returns-clause-digits
returns-clause-digits g c = rw (← row_size c.args.self.now.flat c.requires.row c.row_start-start.ensures c.row_end-end.ensures) c.in-Some.ensures.digits
