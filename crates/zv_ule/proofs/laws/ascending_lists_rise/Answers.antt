use Rattle.zv_ule.proofs.Ascents.{rises_by_place, rises}
use Rattle.zv_ule.proofs.laws.ascending_lists_rise.Goals as goal

pub returns-clause-places : goal.returns-clause-places
returns-clause-places g c = rises_by_place g.met.K.ZvOrd.total

pub returns-clause-rises : goal.returns-clause-rises
returns-clause-rises g c = rises g.met.K.ZvOrd.total

pub returns-clause-gap : goal.returns-clause-gap
returns-clause-gap g c xs key i up found = found.1 (rises g.met.K.ZvOrd.total xs key up)
