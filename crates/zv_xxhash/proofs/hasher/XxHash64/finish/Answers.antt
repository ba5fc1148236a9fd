use Rattle.std.proofs.Common.{◌≡◌, ◌+◌, ◌%◌, ◌^◌, length, arith}
use Rattle.zv_xxhash.specs.Digest.{opening, plus, xxh64}
use Rattle.zv_xxhash.proofs.hasher.XxHash64.finish.Goals as goal

pub returns : goal.returns
unfolding xxh64
returns c = λ seed written held.
    let opened = c.opening.ensures seed written held in
    let sum : (c.opening.result + c.args.self.now.total) % 2 ^ 64 ≡ plus (opening seed written) (length written) = omega (arith, held.total, opened) in
    let kept = held.kept in
    cc
