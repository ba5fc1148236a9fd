use Rattle.std.proofs.Common.{◌≡◌, ◌+◌, ◌*◌, length}
use Rattle.zv_xxhash.specs.Digest.{all_lanes, left_over}
use Rattle.zv_xxhash.proofs.lanes.add_stripes.Given as goal

-- the rest goes on as the whole does
abbrev pub invariant-loop-turn : goal.invariant-loop-turn
invariant-loop-turn l = record {
  long : length l.rest + 32 * l.turn ≡ length l.bytes;
  lanes : all_lanes l.lanes l.rest ≡ all_lanes l.fn.lanes l.bytes;
  left : left_over l.rest ≡ left_over l.bytes;
}
