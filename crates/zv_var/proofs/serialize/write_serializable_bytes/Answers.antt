use Rattle.zv_var.proofs.Common.{length}
use Rattle.zv_var.proofs.Serialized.{count_fits, serialized_sound}
use Rattle.zv_var.proofs.serialize.write_serializable_bytes.Goals as goal

pub write_count-requires-clause-fits : goal.write_count-requires-clause-fits
write_count-requires-clause-fits g c = count_fits g.A.EncodeAsVarULE.fits g.A.EncodeAsVarULE.spelling g.F.VarZeroVecFormat.W c.args.elements.now
    (length c.args.output.now) g.F.VarZeroVecFormat.width_positive c.requires.len

pub returns-clause-spells : goal.returns-clause-spells
returns-clause-spells g c =
    let a = g.A.EncodeAsVarULE in
    let f = g.F.VarZeroVecFormat in
    serialized_sound a.fits a.spelling f.W c.args.elements.now g.T.ZvKind.fault _ f.width_positive f.field_small c.requires.len
    c.write_serializable_bytes_without_length.ensures.valid
