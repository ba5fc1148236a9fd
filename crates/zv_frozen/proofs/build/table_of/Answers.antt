use Rattle.zv_frozen.proofs.Common.{◌∙◌, entries, map, map-id, refl}
use Rattle.zv_frozen.proofs.Refusals.{refused}
use Rattle.zv_frozen.proofs.build.table_of.Goals as goal

pub try_from_pairs-requires : goal.try_from_pairs-requires
try_from_pairs-requires c =
    let sized = c.in_ok-entries.ensures.sized in
    λ k. ((refl, tt), (refl, (refl, (rw c.deref.ensures.value sized.0, rw c.deref.ensures.value sized.1))))

pub returns-in-Ok-clause-table : goal.returns-in-Ok-clause-table
returns-in-Ok-clause-table c = rw (map-id c.deref.result.now ∙ c.deref.ensures.value ∙ c.in_ok-entries.ensures.entries) at c.in-Ok.ensures

pub returns-clause-table : goal.returns-clause-table
returns-clause-table c =
    let given = map-id c.deref.result.now ∙ c.deref.ensures.value ∙ c.in_ok-entries.ensures.entries in
    rw c.from.ensures (refused c.args.map.now.rows c.in_order.ensures.ascending c.in-Err.error (rw given at c.in-Err.ensures))
