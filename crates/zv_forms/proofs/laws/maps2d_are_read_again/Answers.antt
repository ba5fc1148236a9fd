use Rattle.std.proofs.Common.{subst, ◌∙◌}
use Rattle.std.specs.List.{AllByRecursion}
use Rattle.zv_map.specs.Keys.{IsElementOf}
use Rattle.zv_forms.proofs.MapsAgain.{map2d_again}
use Rattle.zv_forms.proofs.laws.maps2d_are_read_again.Goals as goal

pub returns : goal.returns
returns g c rule d =
    map2d_again g.met.K1.ZvOrd.total g.met.K1.JsonAgain.named_again g.V.JsonAgain.Alike g.V.JsonKind.of_data
    (g.met.V.JsonAgain.again c.zvl_as_borrowed.result.usable)
    g.met.K0.ZvOrd.total g.met.K0.JsonAgain.named_again rule c.args.map.now.rows d c.in_order.ensures.ascending c.in_order.ensures.keys
    (subst (AllByRecursion (IsElementOf g.V.ZvKind.fault)) (c.zvl_as_borrowed.ensures.list ∙ c.values.ensures.list) c.elements_are_valid.ensures)
