use Rattle.std.proofs.Common.{rules}
use Rattle.zv_json.proofs.Sound.{record_taken}
use Rattle.zv_json.proofs.records.record_box.Goals as goal

pub of_valid-requires-clause-spells : goal.of_valid-requires-clause-spells
of_valid-requires-clause-spells g c =
    record_taken g.F.VarZeroVecFormat.W g.row.LEN g.K.FieldKinds.faults _ _ g.F.VarZeroVecFormat.field_small c.requires.count (search rules) c.requires.valid
