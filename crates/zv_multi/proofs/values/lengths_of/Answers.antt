use Rattle.std.proofs.Common.{rules, ◌≡◌, length}
use Rattle.zv_multi.proofs.Written.{sound}
use Rattle.zv_multi.proofs.values.lengths_of.Goals as goal

pub returns-clause-spells : goal.returns-clause-spells
returns-clause-spells g c =
    let m = c.measure in
    let all : length m.new.lengths ≡ g.row.LEN = search rules in
    λ fit. sound g.F.VarZeroVecFormat.W g.row.LEN (g.V.FieldValues.fits c.args.values.now) _ _ m.ensures.measured all fit g.K.FieldKinds.faults
    g.F.VarZeroVecFormat.field_small m.ensures.spells
