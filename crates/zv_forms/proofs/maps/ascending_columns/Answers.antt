use Rattle.std.proofs.Common.{arith, rules}
use Rattle.std.proofs.lemmas.Grind.{common_steps}
use Rattle.serde_json.specs.View.{view}
use Rattle.zv_forms.proofs.Ascending.{read_none, read_more}
use Rattle.zv_forms.proofs.maps.ascending_columns.Goals as goal

pub loop-name-init : goal.loop-name-init
loop-name-init g c = read_none (search rules) (search rules) (search rules)

pub loop-name-preserved : goal.loop-name-preserved
loop-name-preserved g c =
    read_more g.met.K.ZvOrd.total c.as_str-name.result.now c.in_ok-key.key c.in_ok-element_from_json.field-0 (view c.in-Some.value.now) c.loop-name.invariant
    (search rules) (grind (arith, common_steps)) (search rules) (search rules) (search rules) (search rules)
