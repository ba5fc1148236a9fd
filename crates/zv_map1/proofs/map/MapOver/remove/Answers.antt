use Rattle.zv_map1.proofs.Common.{sym, without_key_gap, look_up_gap, without_key_at, ap, Some}
use Rattle.zv_map1.proofs.Found.{value_at}
use Rattle.zv_map1.proofs.map.MapOver.remove.Goals as goal

pub returns-in_default-clause-pairs : goal.returns-in_default-clause-pairs
returns-in_default-clause-pairs g c = sym (without_key_gap g.met.K.ZvOrd.total _ _ _ c.in_default.ensures)

pub returns-in_default-clause-before : goal.returns-in_default-clause-before
returns-in_default-clause-before g c = sym (look_up_gap g.met.K.ZvOrd.total _ _ _ c.in_default.ensures)

pub returns-clause-pairs : goal.returns-clause-pairs
returns-clause-pairs g c = rw (without_key_at g.met.K.ZvOrd.total _ _ _ c.in-Ok.ensures) c.in_ok-old.ensures.pairs

pub returns-clause-before : goal.returns-clause-before
returns-clause-before g c = rw (value_at g.met.K.ZvOrd.total _ _ _ c.in-Ok.ensures) (ap Some c.in_ok-old.ensures.before)

pub returns-clause-absent : goal.returns-clause-absent
returns-clause-absent g c none = let some = value_at g.met.K.ZvOrd.total _ _ _ c.in-Ok.ensures in cc

pub returns-in_err-old-clause-absent : goal.returns-in_err-old-clause-absent
returns-in_err-old-clause-absent g c none = let some = value_at g.met.K.ZvOrd.total _ _ _ c.in-Ok.ensures in cc
