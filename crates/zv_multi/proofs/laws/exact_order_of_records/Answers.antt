use Rattle.std.proofs.Common.{◌≡◌, ◌<◌, length, arith}
use Rattle.zv_multi.proofs.Exact.{same_records}
use Rattle.zv_multi.proofs.laws.exact_order_of_records.Goals as goal

pub returns : goal.returns
returns g c =
    let count : length g.K.FieldKinds.faults ≡ g.row.LEN = grind arith in
    let some : 0 < length g.K.FieldKinds.faults = grind arith in
    rw (← count) (same_records g.F.VarZeroVecFormat.W g.K.FieldKinds.faults g.K.FieldOrders.orders some c.requires.fields)
