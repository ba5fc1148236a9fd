use Rattle.zv_command.proofs.Common.{◌≡◌, ◌++◌, ◌∷◌, [], ◌∙◌, ap, arith, rules, length-append, lines, outcome_of, All-nil, length}
use Rattle.zv_input.proofs.Cutting.{line_and}
use Rattle.zv_command.proofs.reader.add_lines.Goals as goal

pub loop-after-preserved : goal.loop-after-preserved
loop-after-preserved g c =
    let line = c.split_at_byte.result.0.now in
    let left = c.in-Some.after.now in
    let cut : c.loop-after.rest.now ≡ line ++ 10 ∷ left = search rules in
    let before = c.split_at_byte.ensures.before in
    let added = c.in_ok-add_line.ensures in
    record {
      same = λ after.
          c.loop-after.invariant.same after
          ∙ ap (outcome_of g.C.Request.with_line c.loop-after.progress) (rw cut (line_and [] line left after (All-nil _) before))
          ∙ added.same (lines (left ++ after));
      fits = omega (arith, ap length cut, length-append line (10 ∷ left), c.loop-after.invariant.fits, added.fits);
    }
