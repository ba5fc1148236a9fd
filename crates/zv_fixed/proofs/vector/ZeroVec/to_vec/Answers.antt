use Rattle.std.proofs.Common.{ℕ, Ok}
use Rattle.std.proofs.lemmas.Iterator.{items_from_collect}
use Rattle.std.proofs.lemmas.Iterator.Consumers.{YieldsList-from_first}
use Rattle.zv_fixed.specs.Iters.{left_of}
use Rattle.zv_fixed.proofs.vector.ZeroVec.to_vec.Goals as goal

pub returns : goal.returns
returns g c =
    let whole = YieldsList-from_first (λ x. x) (left_of {stored = g.T.AsULE} {kind = g.T.ZvKind} {ule = g.T.ULE.ULE}) {s = c.iter.result} c.args.self.now.values
    c.iter.ensures in
    items_from_collect {E = ℕ} (Ok c.in_ok-collect.field-0) c.in_ok-collect.ensures.ran whole
