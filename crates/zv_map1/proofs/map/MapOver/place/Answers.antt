use Rattle.zv_map1.proofs.map.MapOver.place.Goals as goal

pub returns : goal.returns
returns g c = rw (← c.as_borrowed.ensures.pairs) c.place.ensures
