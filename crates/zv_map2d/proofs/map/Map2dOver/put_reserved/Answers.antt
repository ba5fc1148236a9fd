use Rattle.zv_map2d.proofs.Common.{is_some, sym, ◌∙◌, ap}
use Rattle.zv_map2d.proofs.Places.{find_is, pair_found}
use Rattle.zv_map2d.proofs.map.Map2dOver.put_reserved.Goals as goal

pub returns-clause-found : goal.returns-clause-found
returns-clause-found g c =
    let here = find_is g.met.K0.ZvOrd.total g.met.K1.ZvOrd.total c.args.self.now.rows _ _ _ c.find_place-place.ensures in
    c.is_pair.ensures ∙ sym (ap (λ o. is_some o) here ∙ pair_found c.args.self.now.rows _)
