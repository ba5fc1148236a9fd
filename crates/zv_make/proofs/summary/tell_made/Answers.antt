use Rattle.std.proofs.Common.{◌≡◌, [], List, subst}
use Rattle.std.specs.Prelude.{IfOk}
use Rattle.std.specs.String.{string_bytes}
use Rattle.zv_edit.specs.Answers.{last}
use Rattle.zv_input.specs.declared.command.Command.{Command}
use Rattle.zv_make.specs.Summary.{summary_of}
use Rattle.zv_make.proofs.summary.tell_made.Goals as goal

pub returns : goal.returns
returns c = subst (λ (cs : List Command). IfOk c.tell_last.result (λ text. string_bytes text ≡ summary_of (last [] cs)))
    c.in_ok-commands.ensures c.tell_last.ensures
