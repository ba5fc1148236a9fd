use Rattle.std.proofs.Common.{take_all}
use Rattle.std.proofs.lemmas.List.{length-map}
use Rattle.zv_framed.proofs.Frames.{cut_back}
use Rattle.zv_framed.proofs.frame.frame_parts.Goals as goal

pub returns-clause-cut : goal.returns-clause-cut
returns-clause-cut c =
    let parts = c.args.parts.now in
    let all = take_all c.loop-part.part-index parts c.loop-part-test.false in
    let written = rw all at c.loop-part.invariant.written in
    rw (written, ← length-map parts (λ p. p.now)) (cut_back _ (rw all at c.loop-part.invariant.short))
