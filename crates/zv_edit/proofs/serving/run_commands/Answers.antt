use Rattle.zv_edit.proofs.Common.{◌≡◌, ◌++◌, ◌∙◌, suc, sym, ap, rules, reply, next, reply_lines, text, put_sizes, sizes_of}
use Rattle.zv_edit.proofs.PutRoom.{room_for_one, room_for_rest}
use Rattle.zv_command.proofs.Sending.{completes_more, completes_cut, completes_last}
use Rattle.zv_edit.proofs.Served.{at_err, at_ok, next_command, ran_all}
use Rattle.zv_input.specs.Views.{as_command}
use Rattle.zv_edit.proofs.serving.run_commands.Goals as goal

pub run_command-requires : goal.run_command-requires
run_command-requires g c =
    room_for_one (sizes_of (as_command c.in-Some.command)) _ c.loop-command.map (rw c.in-Some.ensures.steps at c.loop-command.invariant.room)

pub returns-in_err-run_command-clause-text : goal.returns-in_err-run_command-clause-text
returns-in_err-run_command-clause-text g c =
    let l = c.loop-command in
    completes_cut _ l.invariant.text (ap (reply_lines l.map.rows) c.in-Some.ensures.steps) c.run_command.ensures.text (search rules) (search rules)

pub returns-in_err-run_command-clause-failed : goal.returns-in_err-run_command-clause-failed
returns-in_err-run_command-clause-failed g c =
    let ran = c.loop-command.invariant.ran in
    let same : c.run_command.new.map.rows ≡ c.loop-command.map.rows = search rules in
    at_err c.from_residual.result (ran.0, same ∙ ran.2)

pub loop-command-preserved : goal.loop-command-preserved
loop-command-preserved g c =
    let l = c.loop-command in
    let command = as_command c.in-Some.command in
    let rest = c.next.new.self in
    let step = c.in-Some.ensures.steps in
    let ran = l.invariant.ran in
    let left : c.run_command.new.map.rows ≡ next l.map.rows command = search rules in
    let after = next_command c.args.map.now.rows c.args.commands ran.0 command rest (ran.1 ∙ step) in
    record {
      can_next = tt;
      is_finite = tt;
      text = completes_more l.invariant.text (ap (reply_lines l.map.rows) step ∙ ap (λ n. text (reply l.map.rows command) ++ reply_lines n rest) (sym left))
          c.run_command.ensures.text (search rules);
      ran = (suc ran.0, after.0, left ∙ ap (λ n. next n command) ran.2 ∙ after.1);
      room = room_for_rest (sizes_of command) (put_sizes rest) l.map c.run_command.new.map (rw step at l.invariant.room) c.run_command.ensures.spends;
    }

pub returns-clause-text : goal.returns-clause-text
returns-clause-text g c =
    completes_last c.loop-command.invariant.text (ap (reply_lines c.loop-command.map.rows) c.in-None.ensures.steps.0) c.send.ensures.text

pub returns-clause-ok : goal.returns-clause-ok
returns-clause-ok g c =
    let ran = c.loop-command.invariant.ran in
    at_ok c.send.result (ran_all c.args.map.now.rows c.args.commands ran.0 _ ran.2 (ran.1 ∙ c.in-None.ensures.steps.0))

pub returns-clause-ready : goal.returns-clause-ready
returns-clause-ready g c = at_ok c.send.result c.loop-command.invariant.room.ready

pub returns-clause-failed : goal.returns-clause-failed
returns-clause-failed g c = let ran = c.loop-command.invariant.ran in at_err c.send.result (ran.0, ran.2)
