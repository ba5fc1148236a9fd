use Rattle.std.proofs.Common.{◌∙◌, ap, subst}
use Rattle.std.specs.List.{AllByRecursion}
use Rattle.zv_json.specs.Back.{list_back}
use Rattle.zv_ule.specs.Chunks.{values_of}
use Rattle.zv_forms.proofs.laws.values_are_read_again.Goals as goal

pub returns : goal.returns
returns g c d is =
    let read = values_of g.T.ULE.ULE.width (λ b. g.T.AsULE.loaded (g.T.ULE.ULE.value b)) in
    let all = subst (AllByRecursion g.T.AsULE.is_value) (ap read c.as_bytes.ensures.bytes ∙ c.as_slice.ensures.values) c.values_are_valid.ensures in
    list_back g.T.AsULE.is_value g.T.JsonValue.value_data g.T.JsonValue.value_in g.met.T.JsonValue.back c.args.list.now.values d all is
