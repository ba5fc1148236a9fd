use Rattle.zv_map2d.proofs.Common.{arith, length-map, rows_in, row_at}
use Rattle.zv_ule.specs.Views.{element_of}
use Rattle.zv_map2d.proofs.Picked.{none_by, picked_value, some_by}
use Rattle.zv_map2d.proofs.cursor.ZeroMap2dCursor.get1_by.Goals as goal

pub returns-in_default-clause-found : goal.returns-in_default-clause-found
returns-in_default-clause-found g c = λ answer computes.
    rw (← c.self.view_is) (none_by _ answer _ (c.in_default.ensures.found answer computes))

pub returns-clause-equal : goal.returns-clause-equal
returns-clause-equal g c =
    rw (← c.self.view_is) (picked_value _ g.P.FnMut c.args.predicate element_of _ _ c.in-Ok.ensures.equal c.value_at.ensures)

pub returns-clause-found : goal.returns-clause-found
returns-clause-found g c = λ answer computes.
    let ps = row_at (rows_in c.self.inside.map) c.self.inside.row in
    rw (← c.self.view_is) (some_by ps element_of answer c.in-Ok.pair _ (c.in-Ok.ensures.found answer computes)
    (omega (arith, c.in-Ok.ensures.bound, length-map ps (λ p. p.1))) c.value_at.ensures)
