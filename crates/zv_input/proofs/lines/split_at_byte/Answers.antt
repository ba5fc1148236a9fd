use Rattle.zv_input.proofs.Common.{length, refl, subst, slice_split_none, is_byte, Lacks, take-length}
use Rattle.zv_input.proofs.Cutting.{cut_around, lacks_before, split_around}
use Rattle.zv_input.proofs.lines.split_at_byte.Goals as goal

pub returns-in-Some : goal.returns-in-Some
returns-in-Some c =
    let text = c.args.text.now in
    let end = c.in-Some.end in
    let before = lacks_before c.args.byte text end c.in-Some.ensures.0.before in
    let cut = cut_around c.args.byte text end c.in-Some.ensures.0.high c.in-Some.ensures.1 in
    record { split = split_around c.args.byte text end before cut; before = before; cut = cut }

pub returns-in-None : goal.returns-in-None
returns-in-None c =
    let text = c.args.text.now in
    let before = subst (Lacks c.args.byte) (take-length text) (lacks_before c.args.byte text (length text) c.in-None.ensures) in
    record { split = slice_split_none (is_byte c.args.byte) text before; before = before; cut = refl }
