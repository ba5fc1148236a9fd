use Rattle.zv_frozen.proofs.Common.{◌∙◌, ap, found, key_hashed, key_order}
use Rattle.zv_frozen.proofs.Thawed.{value_short}
use Rattle.zv_frozen.proofs.frozen.Frozen.get_counted.Goals as goal

pub returns-clause-value : goal.returns-clause-value
returns-clause-value g c =
    let t = c.self.inside.table in
    rw (← c.self.view_is)
    (c.get_counted.ensures.value ∙ ap (found key_order key_hashed t) c.in_ok-key.ensures.1
    ∙ value_short t c.args.key0.now c.args.key1.now c.in_ok-key.ensures.0)
