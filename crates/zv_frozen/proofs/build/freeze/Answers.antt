use Rattle.zv_frozen.proofs.Answered.{answers}
use Rattle.zv_frozen.proofs.build.freeze.Goals as goal

pub returns-clause-frozen : goal.returns-clause-frozen
returns-clause-frozen c = record {
  table = c.in_ok-table.table;
  counts = c.in_ok-table.ensures.counts;
  of_map = c.in_ok-table.ensures.table;
  framed = c.in_ok-to_framed_bytes.ensures.bytes;
}

pub returns-clause-answers : goal.returns-clause-answers
returns-clause-answers c =
    answers c.args.map.now.rows c.in_order.ensures.ascending c.in_order.ensures.keys c.in_ok-table.table c.in_ok-table.ensures.counts
    c.in_ok-table.ensures.table c.home_tables.ensures c.in_ok-to_framed_bytes.field-0.items c.in_ok-to_framed_bytes.ensures.sound
    c.in_ok-to_framed_bytes.ensures.same
