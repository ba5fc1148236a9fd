use Rattle.zv_layers.proofs.Limits.{never_refused}
use Rattle.zv_layers.proofs.laws.laws.Goals as goal

pub returns : goal.returns
returns c = record { accepted = never_refused }
