use Rattle.zv_forms.proofs.laws.tables_are_read_again.Goals as goal

pub returns : goal.returns
returns g c takes_key takes_value d =
    rw (← c.displacements.ensures.values, ← c.keys.ensures.list, ← c.values.ensures.list) (c.vectors_are_read_again.ensures takes_key takes_value d)
