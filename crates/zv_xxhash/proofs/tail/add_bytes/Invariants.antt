use Rattle.std.proofs.Common.{◌≡◌, drop}
use Rattle.zv_xxhash.specs.Digest.{with_bytes}
use Rattle.zv_xxhash.proofs.tail.add_bytes.Given as goal

-- the hash with what is left is that of the whole
abbrev pub invariant-loop-byte : goal.invariant-loop-byte
invariant-loop-byte l = with_bytes l.hash (drop l.byte-index l.bytes) ≡ with_bytes l.fn.hash l.bytes
