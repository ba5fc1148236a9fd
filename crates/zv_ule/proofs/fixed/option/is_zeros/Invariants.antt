use Rattle.zv_ule.proofs.Common.{◌≡◌, ◌&&◌, drop}
use Rattle.std.proofs.Common.{eqb}
use Rattle.std.specs.List.{list_all}
use Rattle.zv_ule.proofs.fixed.option.is_zeros.Given as goal

-- the bytes read so far are zeros, and the rest are, where all are
abbrev pub invariant-loop-byte : goal.invariant-loop-byte
invariant-loop-byte l = (l.zeros && list_all (λ x. eqb x 0) (drop l.byte-index l.bytes)) ≡ list_all (λ x. eqb x 0) l.bytes
