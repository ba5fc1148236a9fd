use Rattle.std.proofs.Common.{map, ◌∙◌, ap, rules}
use Rattle.std.proofs.lemmas.List.{map_push}
use Rattle.serde_json.specs.View.{view}
use Rattle.zv_ule.specs.Views.{element_of}
use Rattle.zv_var.specs.Iters.{left_of}
use Rattle.zv_json.specs.Arrays.{all_written, then_written}
use Rattle.zv_json.proofs.Wrote.{wrote_more}
use Rattle.zv_json.proofs.nested.elements_to_json.Goals as goal

pub loop-element-preserved : goal.loop-element-preserved
loop-element-preserved g c =
    let rest = all_written (map g.T.JsonKind.to_data (left_of c.next.new.self)) in
    let pushed = ap (map view) c.in_ok-push.ensures.items ∙ map_push view c.loop-element.items.items c.in_ok-element_to_json.field-0 in
    let more = wrote_more g.T.JsonKind.to_data _ (element_of c.in-Some.element) _ _ _ c.in-Some.ensures.steps (search rules) in
    record { can_next = tt; is_finite = tt; same = ap (λ done. then_written done rest) pushed ∙ more ∙ c.loop-element.invariant.same }
