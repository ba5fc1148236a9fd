use Rattle.zv_map2d.proofs.Common.{sym, ◌∙◌, look_up_at, look_up_gap}
use Rattle.zv_map2d.proofs.cursor.ZeroMap2dCursor.get1.Goals as goal

pub returns-in_default : goal.returns-in_default
returns-in_default g c = rw (← c.self.view_is) (sym (look_up_gap g.met.K1.ZvOrd.total _ _ _ c.in_default.ensures))

pub returns : goal.returns
returns g c = rw (← c.self.view_is) (c.value_at.ensures ∙ sym (look_up_at g.met.K1.ZvOrd.total _ _ c.in-Ok.pair c.in-Ok.ensures))
