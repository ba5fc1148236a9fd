use Rattle.std.proofs.Common.{◌∙◌, rules}
use Rattle.zv_owned.proofs.Rewritten.{encoded}
use Rattle.zv_var.proofs.Read.{Part_from_fault}
use Rattle.zv_framed.proofs.list.list_part.Goals as goal

pub returns-else-is_empty-clause-written : goal.returns-else-is_empty-clause-written
returns-else-is_empty-clause-written g c =
    let list = c.args.list in
    let f = g.F.VarZeroVecFormat in
    let part = Part_from_fault f.W g.T.ZvKind.fault list.bytes.now f.width_positive list.each list.spells in
    c.as_bytes.ensures.bytes ∙ encoded f.W list.bytes.now _ part (search rules)
