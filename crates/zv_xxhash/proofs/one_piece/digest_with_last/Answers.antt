use Rattle.std.proofs.Common.{◌≡◌, ◌+◌, ◌%◌, ◌^◌, [], ◌∷◌, ◌++◌, length, arith, length-append}
use Rattle.std.proofs.lemmas.Bool.Decides.{nat_tests}
use Rattle.zv_xxhash.specs.Digest.{opening, plus, prime5, xxh64}
use Rattle.zv_xxhash.proofs.Pieces.{left_few}
use Rattle.zv_xxhash.proofs.one_piece.digest_with_last.Goals as goal

pub returns : goal.returns
unfolding xxh64
returns c =
    let bytes = c.args.bytes.now in
    let all = bytes ++ c.args.last ∷ [] in
    let len = length-append bytes (c.args.last ∷ []) in
    let sum : (plus c.args.seed prime5 + (length bytes + 1)) % 2 ^ 64 ≡ plus (opening c.args.seed all) (length all) = grind (arith, nat_tests, len) in
    let left = left_few all (omega (arith, len)) in
    cc
