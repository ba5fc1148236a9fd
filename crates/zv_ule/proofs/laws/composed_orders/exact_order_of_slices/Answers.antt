use Rattle.zv_ule.proofs.Common.{ap, sym, ◌∙◌, flat_map}
use Rattle.zv_ule.proofs.ComposedOrders.{same_lists}
use Rattle.zv_ule.proofs.Lists.{read_list}
use Rattle.zv_ule.proofs.laws.composed_orders.exact_order_of_slices.Goals as goal

pub returns : goal.returns
returns g c a b bytes_a bytes_b good_a good_b equal =
    let s = g.met.U.ULE.spelling in
    let p = read_list s g.U.ULE.TY a bytes_a good_a in
    let q = read_list s g.U.ULE.TY b bytes_b good_b in
    sym p.joined ∙ ap (flat_map g.U.ULE.chunk) (same_lists c.requires _ _ p.values q.values equal) ∙ q.joined
