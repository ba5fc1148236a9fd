use Rattle.zv_frozen.proofs.Common.{◌∙◌, map, rows_left}
use Rattle.zv_frozen.proofs.Refusals.{one_row, row_refused}
use Rattle.zv_frozen.proofs.build.gather.Goals as goal

pub loop-row-preserved : goal.loop-row-preserved
loop-row-preserved c =
    let step = c.in-Some.ensures.steps in
    let key = c.as_str-key0.ensures ∙ c.plain.ensures ∙ c.key0.ensures in
    let items = rw (key, c.iter1.ensures) at c.in_default.ensures.entries in
    record {
      can_next = tt;
      is_finite = tt;
      rest = rw items (one_row c.loop-row.entries.items c.in-Some.row.key c.in-Some.row.pairs
          (map (λ r. (r.key, r.pairs)) (rows_left c.next.new.self)) _ (rw step at c.loop-row.invariant.rest));
      rows = (rw step at c.loop-row.invariant.rows).1;
      sized = c.in_default.ensures.sized c.loop-row.invariant.sized;
    }

pub returns-in-Err-clause-entries : goal.returns-in-Err-clause-entries
returns-in-Err-clause-entries c =
    let step = c.in-Some.ensures.steps in
    let key = c.as_str-key0.ensures ∙ c.plain.ensures ∙ c.key0.ensures in
    let rest = rw step at c.loop-row.invariant.rest in
    row_refused c.args.map.now.rows c.loop-row.entries.items c.in-Some.row.key c.in-Some.row.pairs
    (map (λ r. (r.key, r.pairs)) (rows_left c.next.new.self)) rest
    (rw step at c.loop-row.invariant.rows).0.0 c.in-Err.error (rw key at c.in-Err.ensures.err)
