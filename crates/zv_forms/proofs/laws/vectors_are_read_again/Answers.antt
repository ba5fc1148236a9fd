use Rattle.std.proofs.Common.{ap, subst}
use Rattle.std.specs.List.{AllByRecursion}
use Rattle.zv_ule.specs.Chunks.{values_of}
use Rattle.zv_forms.proofs.TablesAgain.{table_again}
use Rattle.zv_forms.proofs.laws.vectors_are_read_again.Goals as goal

pub returns : goal.returns
returns g c takes_key takes_value d =
    let read = values_of g.T.ULE.ULE.width (λ b. g.T.AsULE.loaded (g.T.ULE.ULE.value b)) in
    let all = subst (AllByRecursion g.T.AsULE.is_value) (ap read c.as_bytes.ensures.bytes) c.values_are_valid.ensures in
    table_again g.met.T.JsonValue.back g.K.JsonAgain.Alike g.V.JsonAgain.Alike g.K.JsonKind.of_data g.V.JsonKind.of_data
    (g.met.K.JsonAgain.again c.args.keys.usable) (g.met.V.JsonAgain.again c.args.values.usable)
    takes_key takes_value _ _ _ d all c.elements_are_valid.ensures c.elements_are_valid-2.ensures c.requires
