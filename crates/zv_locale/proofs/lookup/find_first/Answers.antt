use Rattle.zv_locale.proofs.Common.{◌∙◌, [], ap, sym, option_map_or, left}
use Rattle.zv_locale.proofs.Searches.{seeks_found, seeks_more}
use Rattle.zv_locale.proofs.lookup.find_first.Goals as goal

pub loop-next-preserved : goal.loop-next-preserved
loop-next-preserved g c =
    let v = c.in_default-value_of.ensures in
    seeks_more _ _ _ v.counted v.digits c.loop-next.invariant (ap (λ t. option_map_or left t []) c.in-Some.is ∙ c.next-next.ensures) (sym v.value)

pub returns-in-Some-value_of : goal.returns-in-Some-value_of
returns-in-Some-value_of g c =
    let v = c.in-Some-value_of.ensures in
    let is = ap (λ t. option_map_or left t []) c.in-Some.is ∙ c.next-next.ensures in
    let found = seeks_found _ _ _ v.counted v.digits c.loop-next.invariant is _ (sym v.value) in
    record { found = sym found.0; digits = found.1; counted = found.2 }
