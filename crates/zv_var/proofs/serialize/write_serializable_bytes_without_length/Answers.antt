use Rattle.zv_var.proofs.Serialized.{read_measured}
use Rattle.zv_var.proofs.serialize.write_serializable_bytes_without_length.Goals as goal

pub returns-clause-read : goal.returns-clause-read
returns-clause-read g c =
    (read_measured g.A.EncodeAsVarULE.fits g.A.EncodeAsVarULE.spelling g.F.VarZeroVecFormat.W c.args.elements.now _ _ _
    g.F.VarZeroVecFormat.field_small c.requires.len c.write_starts.ensures c.write_spellings.ensures.written).0

pub returns-clause-sound : goal.returns-clause-sound
returns-clause-sound g c =
    (read_measured g.A.EncodeAsVarULE.fits g.A.EncodeAsVarULE.spelling g.F.VarZeroVecFormat.W c.args.elements.now _ _ _
    g.F.VarZeroVecFormat.field_small c.requires.len c.write_starts.ensures c.write_spellings.ensures.written).1 g.T.ZvKind.fault c.write_spellings.ensures.valid
