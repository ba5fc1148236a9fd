use Rattle.zv_map2d.proofs.Common.{sym, ◌∙◌, InRow, NewRow}
use Rattle.zv_map2d.proofs.Places.{find_is, find_pair, searches_in_row}
use Rattle.zv_map2d.proofs.borrowed.ZeroMap2dBorrowed.get_2d_counted.Goals as goal

pub returns-in_default-clause-value : goal.returns-in_default-clause-value
returns-in_default-clause-value g c = sym (find_is g.met.K0.ZvOrd.total g.met.K1.ZvOrd.total _ _ _ (NewRow _) c.in_default.ensures.place)

pub returns-in_default-pair_place_counted-clause-value : goal.returns-in_default-pair_place_counted-clause-value
returns-in_default-pair_place_counted-clause-value g c =
    sym (find_is g.met.K0.ZvOrd.total g.met.K1.ZvOrd.total _ _ _ (InRow _ _) (c.in-Ok.ensures.place, c.in_default-pair_place_counted.ensures.place))

pub returns-clause-value : goal.returns-clause-value
returns-clause-value g c =
    c.value_at.ensures ∙ sym (find_pair g.met.K0.ZvOrd.total g.met.K1.ZvOrd.total _ _ _ _ _ (c.in-Ok.ensures.place, c.in-Ok-pair_place_counted.ensures.place))

pub returns-in_default-pair_place_counted-clause-digits : goal.returns-in_default-pair_place_counted-clause-digits
returns-in_default-pair_place_counted-clause-digits g c =
    searches_in_row g.met.K0.ZvOrd.total g.met.K1.ZvOrd.total _ _ _ c.in-Ok.ensures.place _ _ _ c.row_place_counted.ensures.counted
    c.pair_place_counted.ensures.counted c.row_place_counted.ensures.digits c.pair_place_counted.ensures.digits

pub returns-clause-digits : goal.returns-clause-digits
returns-clause-digits g c =
    searches_in_row g.met.K0.ZvOrd.total g.met.K1.ZvOrd.total _ _ _ c.in-Ok.ensures.place _ _ _ c.row_place_counted.ensures.counted
    c.pair_place_counted.ensures.counted c.row_place_counted.ensures.digits c.pair_place_counted.ensures.digits
