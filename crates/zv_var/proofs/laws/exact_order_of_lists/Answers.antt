use Rattle.zv_var.proofs.Exact.{equal_lists}
use Rattle.zv_var.proofs.laws.exact_order_of_lists.Goals as goal

pub returns : goal.returns
returns g c =
    let left = c.args.left in
    let right = c.args.right in
    equal_lists g.F.VarZeroVecFormat.W g.T.ZvKind.fault g.T.ZvOrd.cmp _ _ g.F.VarZeroVecFormat.width_positive g.met.T.ZvOrd.total c.requires
    left.each right.each left.spells right.spells
