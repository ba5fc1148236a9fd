use Rattle.zv_command.proofs.Common.{◌≡◌, ◌∷◌, ◌++◌, ◌∙◌, ap, rules, lines, outcome_of}
use Rattle.zv_input.proofs.Cutting.{line_and}
use Rattle.zv_command.proofs.reader.Reader.take.Goals as goal

pub returns-in_ok-self-clause-same : goal.returns-in_ok-self-clause-same
returns-in_ok-self-clause-same g c =
    let with_line = g.C.Request.with_line in
    let tail = c.args.self.now.tail.items in
    let more = c.split_at_byte.result.0.now in
    let rest = c.in-Some.rest.now in
    let cut : c.args.piece.now ≡ more ++ 10 ∷ rest = search rules in
    let whole : c.deref.result.now ≡ tail ++ more = search rules in
    let kept : c.in_ok-self.field-0.items ≡ c.in_ok-tail.tail.now = search rules in
    λ after.
    let one = rw whole at (c.in_ok-add_line.ensures.same (lines (rest ++ after))) in
    ap (outcome_of with_line c.args.self.now.progress) (rw cut (line_and tail more rest after c.requires.partial c.split_at_byte.ensures.before)) ∙ one
    ∙ rw kept (c.in_ok-tail.ensures.same after)
