use Rattle.zv_owned.proofs.Common.{arith, list_of, sym}
use Rattle.zv_owned.proofs.Pushes.{several_taken}
use Rattle.zv_owned.proofs.size.takes_elements.Goals as goal

pub returns-in_default : goal.returns-in_default
returns-in_default g c =
    let f = g.G.VarZeroVecFormat in
    rw (c.size_of.ensures.is, c.most-most.ensures.is) (sym (several_taken f.W f.width_positive f.field_small (list_of c.args.list) (omega arith)))
