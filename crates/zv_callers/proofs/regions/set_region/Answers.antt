use Rattle.std.proofs.Common.{ap, ◌∙◌}
use Rattle.std.proofs.lemmas.Cmp.{nat_list_cmp_total}
use Rattle.zv_map2d.specs.Image.{by_bytes}
use Rattle.zv_map2d.specs.Rows.{Rows, find}
use Rattle.zv_map2d_laws.proofs.FiniteMap.{put_is_found}
use Rattle.zv_callers.proofs.regions.set_region.Goals as goal

pub returns-clause-found : goal.returns-clause-found
returns-clause-found c =
    ap (λ (m : Rows). find by_bytes by_bytes m c.args.language.now c.args.script.now) c.in_ok-old.ensures.rows
    ∙ put_is_found by_bytes by_bytes nat_list_cmp_total nat_list_cmp_total
    c.args.table.now.rows c.args.language.now c.args.script.now c.args.region.now
