use Rattle.zv_map2d.proofs.Common.{◌∙◌, rules}
use Rattle.zv_map2d.proofs.Places.{find_is}
use Rattle.zv_map2d.proofs.map.Map2dOver.try_append.Goals as goal

pub returns-in_err-insert_at-clause-new : goal.returns-in_err-insert_at-clause-new
returns-in_err-insert_at-clause-new g c = λ above.
    rw (← c.as_borrowed.ensures.rows) (find_is g.met.K0.ZvOrd.total g.met.K1.ZvOrd.total _ _ _ _ c.in-Some.ensures.place ∙ c.in-Some.ensures.new)

pub returns-in_err-insert_at-clause-refused : goal.returns-in_err-insert_at-clause-refused
returns-in_err-insert_at-clause-refused g c = λ above.
    let none = find_is g.met.K0.ZvOrd.total g.met.K1.ZvOrd.total _ _ _ _ c.in-Some.ensures.place ∙ c.in-Some.ensures.new in
    let refused = rw (rw c.as_borrowed.ensures.rows at none) at c.in_err-insert_at.ensures.refused in search rules

pub returns-clause-new : goal.returns-clause-new
returns-clause-new g c = λ above.
    rw (← c.as_borrowed.ensures.rows) (find_is g.met.K0.ZvOrd.total g.met.K1.ZvOrd.total _ _ _ _ c.in-Some.ensures.place ∙ c.in-Some.ensures.new)

pub returns-clause-refused : goal.returns-clause-refused
returns-clause-refused g c = λ above.
    let none = find_is g.met.K0.ZvOrd.total g.met.K1.ZvOrd.total _ _ _ _ c.in-Some.ensures.place ∙ c.in-Some.ensures.new in
    let refused = rw (rw c.as_borrowed.ensures.rows at none) at c.in_ok-insert_at.ensures.refused in search rules
