use Rattle.zv_map1.proofs.borrowed.ZeroMapBorrowed.iter_copied.Goals as goal

pub returns : goal.returns
returns g c = rw (← c.iter.ensures) c.copied.ensures
