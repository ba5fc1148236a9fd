use Rattle.zv_var.proofs.Common.{sym}
use Rattle.zv_var.proofs.Serialized.{on_some, lengthless_sound}
use Rattle.zv_var.proofs.serialize.compute_serializable_len.Goals as goal

pub returns-clause-codable : goal.returns-clause-codable
returns-clause-codable g c = on_some c.checked_add.result c.in_ok-compute_serializable_len_without_length.ensures.codable

pub returns-clause-spells : goal.returns-clause-spells
returns-clause-spells g c =
    let a = g.A.EncodeAsVarULE in
    let f = g.F.VarZeroVecFormat in
    let len = c.in_ok-compute_serializable_len_without_length.ensures in
    on_some c.checked_add.result
    (lengthless_sound a.fits a.spelling f.W c.args.elements.now g.T.ZvKind.fault _ f.width_positive f.field_small (sym len.len) len.valid)
