use Rattle.std.proofs.Common.{◌≡◌, length, rules}
use Rattle.zv_multi.proofs.Cut.{cut_read}
use Rattle.zv_multi.proofs.fields.MultiFieldsULE.new_from_lengths_partially_initialized.Goals as goal

pub returns-clause-lengths : goal.returns-clause-lengths
returns-clause-lengths g c =
    let many : length c.args.lengths ≡ g.row.LEN = search rules in
    let written = rw many at c.write_starts.ensures in
    (cut_read g.F.VarZeroVecFormat.W g.row.LEN c.args.lengths c.args.output.now _ g.F.VarZeroVecFormat.field_small many c.requires written).0

pub returns-clause-shape : goal.returns-clause-shape
returns-clause-shape g c =
    let many : length c.args.lengths ≡ g.row.LEN = search rules in
    let written = rw many at c.write_starts.ensures in
    (cut_read g.F.VarZeroVecFormat.W g.row.LEN c.args.lengths c.args.output.now _ g.F.VarZeroVecFormat.field_small many c.requires written).1
