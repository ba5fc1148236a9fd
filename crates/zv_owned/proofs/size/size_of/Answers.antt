use Rattle.zv_owned.proofs.Common.{Part_from_fault, ap, arith, length, list_of, rules}
use Rattle.zv_owned.proofs.SizeRule.{IsSized, sized}
use Rattle.zv_owned.proofs.size.size_of.Goals.{After-W}
use Rattle.zv_owned.proofs.size.size_of.Goals as goal

is : (g : _) (c : After-W g) → IsSized g.F.VarZeroVecFormat.W g.G.VarZeroVecFormat.W c.args.list.bytes.now (list_of c.args.list)
is g c =
    let f = g.F.VarZeroVecFormat in
    let list = c.args.list in
    sized f.W g.G.VarZeroVecFormat.W list.bytes.now (list_of list) (Part_from_fault f.W g.T.ZvKind.fault list.bytes.now f.width_positive list.each list.spells)
    f.field_small g.G.VarZeroVecFormat.width_small (omega arith)

pub overflow_mul-own : goal.overflow_mul-own
overflow_mul-own g c =
    rw (c.W.ensures, c.requires.count) (search (rules, (is g (goal.at.overflow_mul-own g c).After-W).inside, c.args.list.short))

pub overflow_mul-other : goal.overflow_mul-other
overflow_mul-other g c = rw (c.W-2.ensures, c.requires.count) (omega (arith, (is g (goal.at.overflow_mul-other g c).After-W).few))

pub overflow_sub-result : goal.overflow_sub-result
overflow_sub-result g c =
    rw (c.W.ensures, c.requires.count) (omega (arith, (is g (goal.at.overflow_sub-result g c).After-W).inside, ap length c.as_bytes.ensures.bytes))

pub overflow_add-result : goal.overflow_add-result
overflow_add-result g c = rw (c.W.ensures, c.W-2.ensures, c.requires.count)
    (omega (arith, (is g (goal.at.overflow_add-result g c).After-W).few, ap length c.as_bytes.ensures.bytes, c.args.list.short))

pub returns-clause-is : goal.returns-clause-is
returns-clause-is g c = rw (c.W.ensures, c.W-2.ensures, c.requires.count)
    (omega (arith, (is g (goal.at.returns-clause-is g c).After-W).is, ap length c.as_bytes.ensures.bytes))

pub returns-clause-small : goal.returns-clause-small
returns-clause-small g c = rw (c.W.ensures, c.W-2.ensures, c.requires.count)
    (omega (arith, (is g (goal.at.returns-clause-small g c).After-W).few, ap length c.as_bytes.ensures.bytes, c.args.list.short))
