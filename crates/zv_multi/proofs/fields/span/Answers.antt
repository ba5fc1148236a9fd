use Rattle.std.proofs.Common.{arith}
use Rattle.zv_multi.proofs.Setting.{in_record}
use Rattle.zv_multi.proofs.fields.span.Goals as goal

pub overflow_add-start : goal.overflow_add-start
overflow_add-start g c = let r = in_record g.F.VarZeroVecFormat.W g.row.LEN _ _ c.type_inv.bytes c.requires.place c.requires.shape in grind (arith, r.1.1)

pub overflow_add-result : goal.overflow_add-result
overflow_add-result g c = let r = in_record g.F.VarZeroVecFormat.W g.row.LEN _ _ c.type_inv.bytes c.requires.place c.requires.shape in grind (arith, r.1.1)

pub returns-clause-within : goal.returns-clause-within
returns-clause-within g c = let r = in_record g.F.VarZeroVecFormat.W g.row.LEN _ _ c.type_inv.bytes c.requires.place c.requires.shape in grind (arith, r.1.1)

pub returns-clause-written : goal.returns-clause-written
returns-clause-written g c = (in_record g.F.VarZeroVecFormat.W g.row.LEN c.args.idx c.args.bytes.now c.type_inv.bytes c.requires.place c.requires.shape).0

pub returns-clause-numbered : goal.returns-clause-numbered
returns-clause-numbered g c = (in_record g.F.VarZeroVecFormat.W g.row.LEN c.args.idx c.args.bytes.now c.type_inv.bytes c.requires.place c.requires.shape).1.0
