use Rattle.zv_map2d.proofs.Common.{◌∙◌}
use Rattle.zv_map2d.proofs.map.Map2dOver.parts.Goals as goal

pub returns-clause-keys0 : goal.returns-clause-keys0
returns-clause-keys0 g c =
    rw (← c.self.view_is)
    (record { sound = c.zvl_bytes.ensures.spells; list = c.zvl_bytes.ensures.list ∙ c.self.invariant.flat.firsts_are })

pub returns-clause-keys1 : goal.returns-clause-keys1
returns-clause-keys1 g c =
    rw (← c.self.view_is)
    (record { sound = c.zvl_bytes-2.ensures.spells; list = c.zvl_bytes-2.ensures.list ∙ c.self.invariant.flat.seconds_are })

pub returns-clause-values : goal.returns-clause-values
returns-clause-values g c =
    rw (← c.self.view_is)
    (record { sound = c.zvl_bytes-3.ensures.spells; list = c.zvl_bytes-3.ensures.list ∙ c.self.invariant.flat.values_are })
