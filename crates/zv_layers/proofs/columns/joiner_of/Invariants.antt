use Rattle.zv_layers.proofs.Common.{◌≡◌, take}
use Rattle.zv_layers.proofs.columns.joiner_of.Given as goal

abbrev pub invariant-loop-end : goal.invariant-loop-end
invariant-loop-end l = l.joiner.values ≡ take l.end-index l.ends
