use Rattle.std.proofs.Common.{ap, sym, ◌∙◌}
use Rattle.std.specs.Prelude.{flat_map}
use Rattle.zv_ule.proofs.ComposedOrders.{same_lists}
use Rattle.zv_ule.proofs.Exact.{through_twin}
use Rattle.zv_ule.proofs.Lists.{read_list}
use Rattle.zv_fixed.proofs.laws.exact_order_of_lists.Goals as goal

pub returns : goal.returns
returns g c a b bytes_a bytes_b good_a good_b equal =
    let u = g.T.ULE.ULE in
    let s = through_twin g.met.T.AsULE.twin g.met.T.ULE.ULE.spelling in
    let p = read_list s u.TY a bytes_a good_a in
    let q = read_list s u.TY b bytes_b good_b in
    sym p.joined ∙ ap (flat_map (λ v. u.chunk (g.T.AsULE.stored v))) (same_lists c.requires _ _ p.values q.values equal) ∙ q.joined
