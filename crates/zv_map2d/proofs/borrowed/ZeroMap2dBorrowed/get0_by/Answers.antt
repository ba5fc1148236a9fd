use Rattle.zv_map2d.proofs.Common.{rows_in}
use Rattle.zv_map2d.proofs.Picked.{key_answered, none_by, one_by, picked}
use Rattle.zv_map2d.proofs.Seen.{row_seen_is}
use Rattle.zv_map2d.proofs.borrowed.ZeroMap2dBorrowed.get0_by.Goals as goal

pub returns-in_default-clause-found : goal.returns-in_default-clause-found
returns-in_default-clause-found g c = λ answer computes.
    none_by (rows_in c.args.self.now) answer c.in_default.field-0
    (rw (← c.args.self.now.flat.firsts_are) (c.in_default.ensures.found answer computes))

pub returns-clause-equal : goal.returns-clause-equal
returns-clause-equal g c =
    picked (rows_in c.args.self.now) g.P.FnMut c.args.predicate _ _ (rw (← c.args.self.now.flat.firsts_are) c.in-Ok.ensures.equal)
    (row_seen_is c.args.self.now.flat _ _ c.in-Ok.ensures.bound c.cursor.ensures)

pub returns-clause-found : goal.returns-clause-found
returns-clause-found g c = λ answer computes.
    one_by (rows_in c.args.self.now) answer _ _ (rw (← c.args.self.now.flat.firsts_are) (c.in-Ok.ensures.found answer computes))
    (row_seen_is c.args.self.now.flat _ _ c.in-Ok.ensures.bound c.cursor.ensures)

pub returns-clause-key : goal.returns-clause-key
returns-clause-key g c = rw (c.cursor.ensures) (rw (← c.args.self.now.flat.firsts_are) c.in-Ok.ensures.equal)

pub returns-clause-answer : goal.returns-clause-answer
returns-clause-answer g c = λ answer computes.
    rw (c.cursor.ensures)
    (key_answered (rows_in c.args.self.now) answer _ (rw (← c.args.self.now.flat.firsts_are) (c.in-Ok.ensures.found answer computes)))
