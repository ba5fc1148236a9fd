use Rattle.zv_locale.proofs.Common.{None, Some}
use Rattle.zv_locale.proofs.Cuts.{cut_last}
use Rattle.zv_locale.proofs.walk.without_last.Goals as goal

pub returns-in-Some : goal.returns-in-Some
returns-in-Some c = cut_last c.args.locale.now (Some (c.in-Some.front, c.in-Some.field-0-1)) c.in-Some.ensures.cases

pub returns-in-None : goal.returns-in-None
returns-in-None c = cut_last c.args.locale.now None c.in-None.ensures.cases
