use Rattle.std.proofs.Common.{◌≡◌, ℕ, ◌+◌, ◌*◌, List, ◌++◌, length}
use Rattle.zv_xxhash.specs.Digest.{with_rest}
use Rattle.zv_xxhash.proofs.tail.add_words.Given as goal

-- the rest goes on as the whole does
abbrev pub invariant-loop-turn : goal.invariant-loop-turn
invariant-loop-turn l = record {
  long : length l.rest + 8 * l.turn ≡ length l.bytes;
  same : (others : List ℕ) → with_rest l.hash (l.rest ++ others) ≡ with_rest l.fn.hash (l.bytes ++ others);
}
