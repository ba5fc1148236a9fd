use Rattle.std.proofs.Common.{subst}
use Rattle.std.specs.List.{AllByRecursion}
use Rattle.zv_map.specs.Keys.{IsElementOf}
use Rattle.zv_forms.proofs.MapsAgain.{named_map_again, other_map_again}
use Rattle.zv_forms.proofs.laws.maps_are_read_again.Goals as goal

pub returns-clause-named : goal.returns-clause-named
returns-clause-named g c rule d named =
    named_map_again g.met.K.ZvOrd.total g.met.K.JsonAgain.named_again g.V.JsonAgain.Alike g.V.JsonKind.of_data
    (g.met.V.JsonAgain.again c.values.result.usable) rule
    g.K.JsonKind.to_data g.K.JsonKind.of_data g.K.JsonKind.KEY c.args.map.now.pairs d named c.in_order.ensures.ascending c.in_order.ensures.keys
    (subst (AllByRecursion (IsElementOf g.V.ZvKind.fault)) c.values.ensures.list c.elements_are_valid.ensures)

pub returns-clause-others : goal.returns-clause-others
returns-clause-others g c tied rule d other =
    other_map_again g.met.K.ZvOrd.total g.met.K.JsonAgain.named_again g.V.JsonAgain.Alike g.V.JsonKind.of_data (g.met.V.JsonAgain.again c.values.result.usable)
    g.K.JsonAgain.Alike g.K.JsonKind.of_data (g.met.K.JsonAgain.again c.keys-keys.result.usable) tied rule g.K.JsonKind.KEY c.args.map.now.pairs d other
    c.in_order.ensures.ascending c.in_order.ensures.keys
    (subst (AllByRecursion (IsElementOf g.V.ZvKind.fault)) c.values.ensures.list c.elements_are_valid.ensures)
