use Rattle.std.proofs.Common.{ap, ◌∙◌}
use Rattle.std.proofs.lemmas.Cmp.{nat_list_cmp_total}
use Rattle.zv_map2d.specs.Image.{by_bytes}
use Rattle.zv_map2d.specs.Rows.{Rows, find}
use Rattle.zv_map2d_laws.proofs.FiniteMap.{del_is_gone}
use Rattle.zv_callers.proofs.regions.clear_region.Goals as goal

pub returns-clause-gone : goal.returns-clause-gone
returns-clause-gone c =
    ap (λ (m : Rows). find by_bytes by_bytes m c.args.language.now c.args.script.now) c.in_ok-remove.ensures.rows
    ∙ del_is_gone by_bytes by_bytes nat_list_cmp_total nat_list_cmp_total
    c.args.table.now.rows c.args.language.now c.args.script.now c.in_order.ensures
