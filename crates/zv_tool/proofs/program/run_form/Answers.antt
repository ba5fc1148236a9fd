use Rattle.zv_tool.proofs.Runs.{told_at_once}
use Rattle.zv_tool.proofs.program.run_form.Goals as goal

pub returns-in-Make : goal.returns-in-Make
returns-in-Make g c = rw c.in-Make.is (told_at_once g.S.Source.left g.S.Source.faults c.args.source.now c.make.ensures)
