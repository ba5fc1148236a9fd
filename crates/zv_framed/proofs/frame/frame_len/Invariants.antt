use Rattle.std.proofs.Common.{◌≡◌, ◌-◌, ◌^◌, length, min, take}
use Rattle.std.specs.Prelude.{map}
use Rattle.zv_framed.specs.Frames.{frame_of}
use Rattle.zv_framed.proofs.frame.frame_len.Given as goal

abbrev pub invariant-loop-part : goal.invariant-loop-part
invariant-loop-part l = l.len ≡ min (length (frame_of (map (λ p. p.now) (take l.part-index l.parts)))) (2 ^ 64 - 1)
