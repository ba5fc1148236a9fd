use Rattle.zv_locale.proofs.Common.{rules, lit<, tests, all_from_yields_List, YieldsList-from_str_split, is_locale}
use Rattle.zv_locale.proofs.wanted.are_locales.Goals as goal

pub returns : goal.returns
returns c =
    let split = YieldsList-from_str_split 44 c.args.text.now (lit< tt) c.split.ensures.text c.split.ensures.has_more c.split.ensures.pattern in
    all_from_yields_List is_locale _ _ _ c.all.ensures.ran split (λ x b q k. search (rules, tests))
