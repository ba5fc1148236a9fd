use Rattle.zv_locale.proofs.Common.{None, Some}
use Rattle.zv_locale.proofs.Cuts.{first_names}
use Rattle.zv_locale.proofs.walk.Try.first.Goals as goal

pub returns-in-Some : goal.returns-in-Some
returns-in-Some c = first_names c.args.text.now (Some (c.in-Some.locale, c.in-Some.rest)) c.in-Some.ensures.cases

pub returns-in-None : goal.returns-in-None
returns-in-None c = first_names c.args.text.now None c.in-None.ensures.cases
