use Rattle.zv_var.proofs.Common.{ap}
use Rattle.std.proofs.Math.Nat.{ℕ_set}
use Rattle.zv_var.proofs.iter.VarZeroSliceIterClone.clone.Goals as goal

pub returns : goal.returns
returns g c =
    let self = c.args.self.now in
    record { cases = ap (λ p. record { list = self.list; next = self.next; start = self.start; starts = p }) (ℕ_set _ _ _ self.starts) }
