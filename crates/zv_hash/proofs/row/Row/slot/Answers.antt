use Rattle.zv_hash.proofs.Common.{arith}
use Rattle.std.proofs.Math.Nat.{mod-add-mod, mod-eq_of_lt, mod-eq-sub-mod}
use Rattle.zv_hash.proofs.row.Row.slot.Goals as goal

pub returns-then-sum-self : goal.returns-then-sum-self
returns-then-sum-self c = grind (arith, mod-eq_of_lt, mod-add-mod c.args.self.base c.args.self.slots c.args.second)

pub returns-else-sum-self : goal.returns-else-sum-self
returns-else-sum-self c = grind (arith, mod-eq_of_lt, mod-eq-sub-mod, mod-add-mod c.args.self.base c.args.self.slots c.args.second)
