use Rattle.zv_map2d.proofs.Common.{refl}
use Rattle.zv_map2d.proofs.Picked.{answers_range}
use Rattle.zv_map2d.proofs.Seen.{in_range, row_range_is, row_size}
use Rattle.zv_map2d.proofs.borrowed.ZeroMap2dBorrowed.pair_place_by.Goals as goal

pub unreachable-requires : goal.unreachable-requires
unreachable-requires g c = in_range c.args.self.now.flat c.requires.row c.row_start-start.ensures c.row_end-end.ensures (c.in-None.ensures.none.0 refl)

pub returns-clause-bound : goal.returns-clause-bound
returns-clause-bound g c = rw (← row_size c.args.self.now.flat c.requires.row c.row_start-start.ensures c.row_end-end.ensures) c.in-Some.ensures.bound

pub returns-clause-equal : goal.returns-clause-equal
returns-clause-equal g c = rw (← row_range_is c.args.self.now.flat c.requires.row c.row_start-start.ensures c.row_end-end.ensures) c.in-Some.ensures.equal

pub returns-clause-found : goal.returns-clause-found
returns-clause-found g c = λ answer computes.
    rw (← row_range_is c.args.self.now.flat c.requires.row c.row_start-start.ensures c.row_end-end.ensures, ← answers_range)
    (c.in-Some.ensures.found answer computes)
