use Rattle.std.proofs.Common.{refl}
use Rattle.zv_multi.proofs.Setting.{set_fields}
use Rattle.zv_multi.proofs.fields.MultiFieldsULE.set_field_at.Goals as goal

pub returns-clause-fields : goal.returns-clause-fields
returns-clause-fields g c =
    let s = c.span-start.ensures in
    let w = g.F.VarZeroVecFormat.W in
    rw c.encode_var_ule_write.ensures.written
    ((set_fields w g.row.LEN c.args.idx c.args.output.now _ refl c.requires.place s.written _ _ _ s.numbered s.start s.end c.requires.whole).0)

pub returns-clause-shape : goal.returns-clause-shape
returns-clause-shape g c =
    let s = c.span-start.ensures in
    let w = g.F.VarZeroVecFormat.W in
    rw c.encode_var_ule_write.ensures.written
    ((set_fields w g.row.LEN c.args.idx c.args.output.now _ refl c.requires.place s.written _ _ _ s.numbered s.start s.end c.requires.whole).1)
