use Rattle.zv_props.proofs.request.answer_text.Goals as goal

pub returns : goal.returns
returns c = record {
  table = c.take_steps.new.table;
  proper = c.push_table.ensures.proper;
  alike = c.in_ok-text.ensures.table;
  is = rw c.in_ok-text.ensures.replies at c.in_ok-push_table.ensures.text;
}
