use Rattle.std.proofs.Common.{ap, ◌∙◌}
use Rattle.std.proofs.lemmas.Cmp.{nat_list_cmp_total}
use Rattle.std.specs.Cmp.Lexicographic.{slice_cmp}
use Rattle.std.specs.Ordering.{nat_cmp}
use Rattle.zv_map1.specs.Views.{Pairs, look_up}
use Rattle.zv_map1.proofs.Building.{insert_is_found}
use Rattle.zv_callers.proofs.names.set_name.Goals as goal

pub returns-clause-found : goal.returns-clause-found
returns-clause-found c =
    ap (λ (m : Pairs). look_up (slice_cmp nat_cmp) m c.args.language.now) c.in_ok-old.ensures.pairs
    ∙ insert_is_found (slice_cmp nat_cmp) nat_list_cmp_total c.args.table.now.pairs c.args.language.now c.args.name.now
