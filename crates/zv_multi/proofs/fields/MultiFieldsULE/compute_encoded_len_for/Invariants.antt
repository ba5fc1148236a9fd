use Rattle.std.proofs.Common.{◌≡◌, ◌+◌, ◌-◌, ◌*◌, ◌^◌, min, take, sum}
use Rattle.zv_multi.proofs.fields.MultiFieldsULE.compute_encoded_len_for.Given as goal

abbrev pub invariant-loop-length : goal.invariant-loop-length
invariant-loop-length g l =
    l.len ≡ min (g.F.VarZeroVecFormat.W * (g.row.LEN - 1) + sum (take l.length-index l.fn.lengths)) (2 ^ 64 - 1)
