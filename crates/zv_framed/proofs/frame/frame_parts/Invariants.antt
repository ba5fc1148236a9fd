use Rattle.std.proofs.Common.{◌≡◌, ◌^◌, ◌<◌, length, take}
use Rattle.std.specs.Prelude.{map}
use Rattle.std.specs.List.{AllByRecursion}
use Rattle.zv_framed.specs.Frames.{frame_of}
use Rattle.zv_framed.proofs.frame.frame_parts.Given as goal

abbrev pub invariant-loop-part : goal.invariant-loop-part
invariant-loop-part l = record {
  written : l.bytes.items ≡ frame_of (map (λ p. p.now) (take l.part-index l.parts));
  short : AllByRecursion (λ p. length p < 256 ^ 8) (map (λ p. p.now) (take l.part-index l.parts));
}
