use Rattle.zv_ule.proofs.Words.{four_first}
use Rattle.zv_ule.proofs.compare.order_of_four.Goals as goal

pub returns : goal.returns
returns c = four_first c.args.a.now c.args.b.now _ _ c.order_of.result c.requires.a c.requires.b c.type_inv.a c.type_inv.b c.first_four.ensures
    c.first_four-2.ensures c.order_of.ensures
