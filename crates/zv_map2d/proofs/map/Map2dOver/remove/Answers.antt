use Rattle.zv_map2d.proofs.Common.{rules, refl, arith, sym, ◌∙◌, ap, Some, Pair}
use Rattle.zv_map2d.proofs.Places.{del_is, find_is, none_gone, nothing_there, pair_there}
use Rattle.zv_map2d.proofs.Seen.{pair_stands, seen}
use Rattle.zv_map2d.proofs.map.Map2dOver.remove.Goals as goal

pub returns-in_default : goal.returns-in_default
returns-in_default g c =
    let at = (rw c.as_borrowed-view.ensures.rows at c.place-place.ensures) in record {
      rows = sym (del_is g.met.K0.ZvOrd.total g.met.K1.ZvOrd.total _ _ _ (rw c.as_borrowed-view.ensures.rows at c.as_borrowed-view.result.well) _ at
          ∙ none_gone c.args.self.now.rows _ c.in_default.not-Pair);
      before = sym (find_is g.met.K0.ZvOrd.total g.met.K1.ZvOrd.total _ _ _ _ at ∙ nothing_there c.args.self.now.rows _ c.in_default.not-Pair);
      stays = search rules;
      absent = λ none. (refl, refl);
      err = tt;
    }

pub pair_start-at-requires : goal.pair_start-at-requires
pair_start-at-requires g c =
    let there = pair_there g.K0.ZvOrd.cmp g.K1.ZvOrd.cmp _ _ _ _ _ (rw (c.in-Pair.is, c.as_borrowed-view.ensures.rows) at c.place-place.ensures) in
    record { row = rw c.as_borrowed-view.ensures.rows there.0; pair = rw c.as_borrowed-view.ensures.rows (omega (arith, there.1)) }

pub zvl_get_owned-requires : goal.zvl_get_owned-requires
zvl_get_owned-requires g c =
    let there = pair_there g.K0.ZvOrd.cmp g.K1.ZvOrd.cmp _ _ _ _ _ (rw (c.in-Pair.is, c.as_borrowed-view.ensures.rows) at c.place-place.ensures) in
    (pair_stands (seen c.self.view_is c.self.invariant) there.0 there.1 (rw c.as_borrowed-view.ensures.rows at c.pair_start-at.ensures)).1

pub returns-in_err-old-clause-absent : goal.returns-in_err-old-clause-absent
returns-in_err-old-clause-absent g c none =
    let found = find_is g.met.K0.ZvOrd.total g.met.K1.ZvOrd.total _ _ _ (Pair _ _)
    (rw (c.in-Pair.is, c.as_borrowed-view.ensures.rows) at c.place-place.ensures) in cc

pub returns-in_err-make_owned-clause-absent : goal.returns-in_err-make_owned-clause-absent
returns-in_err-make_owned-clause-absent g c none =
    let found = find_is g.met.K0.ZvOrd.total g.met.K1.ZvOrd.total _ _ _ (Pair _ _)
    (rw (c.in-Pair.is, c.as_borrowed-view.ensures.rows) at c.place-place.ensures) in cc

pub returns-clause-before : goal.returns-clause-before
returns-clause-before g c =
    let found = find_is g.met.K0.ZvOrd.total g.met.K1.ZvOrd.total _ _ _ (Pair _ _)
    (rw (c.in-Pair.is, c.as_borrowed-view.ensures.rows) at c.place-place.ensures) in
    ap Some (rw ((seen c.self.view_is c.self.invariant).values_are, c.pair_start-at.ensures, c.as_borrowed-view.ensures.rows) at c.in_ok-old.ensures) ∙ sym
    found

pub returns-clause-absent : goal.returns-clause-absent
returns-clause-absent g c none =
    let found = find_is g.met.K0.ZvOrd.total g.met.K1.ZvOrd.total _ _ _ (Pair _ _)
    (rw (c.in-Pair.is, c.as_borrowed-view.ensures.rows) at c.place-place.ensures) in cc
