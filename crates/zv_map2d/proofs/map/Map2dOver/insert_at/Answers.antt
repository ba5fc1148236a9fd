use Rattle.zv_map2d.proofs.Common.{rules, refl, sym, ◌∙◌, ap, Rule, rule_of, Some, Pair}
use Rattle.zv_map2d.proofs.Places.{find_is, fits_is, nothing_there, pair_there, put_is}
use Rattle.zv_map2d.proofs.Seen.{columns, pair_stands, same_lists, seen, seen_well, view_of}
use Rattle.zv_map2d.proofs.Splices.{value_set}
use Rattle.zv_map2d.proofs.Well.{put_at_well}
use Rattle.zv_map2d.proofs.map.Map2dOver.insert_at.Given as given
use Rattle.zv_map2d.proofs.map.Map2dOver.insert_at.Goals as goal

abbrev rule : given.Over → Rule
rule g = rule_of g.C0.ZvContainer.takes_insert g.C1.ZvContainer.takes_insert g.D.ZvContainer.takes_insert g.D.ZvContainer.takes_replace

pub zvl_replace-requires : goal.zvl_replace-requires
zvl_replace-requires g c κs =
    let there = pair_there g.K0.ZvOrd.cmp g.K1.ZvOrd.cmp _ _ _ _ _ (rw c.in-Pair.is at c.requires.place) in
    ((refl, tt), (c.requires.value, (pair_stands (seen c.self.view_is c.self.invariant) there.0 there.1 c.pair_start-at.ensures).1))

pub invariant_of-self-in-Pair : goal.invariant_of-self-in-Pair
invariant_of-self-in-Pair g c =
    let at = rw c.in-Pair.is at c.requires.place in
    let there = pair_there g.K0.ZvOrd.cmp g.K1.ZvOrd.cmp _ _ _ _ _ at in
    columns c.self.invariant (same_lists refl refl refl c.in_ok-old.ensures.ok
    (value_set (seen c.self.view_is c.self.invariant) _ _ _ there.0 c.pair_start-at.ensures _ there.1))
    (put_at_well g.met.K0.ZvOrd.total g.met.K1.ZvOrd.total _ _ _ (seen_well c.self.view_is c.self.invariant) (Pair _ _) at _)

pub returns-in-Pair-clause-rows : goal.returns-in-Pair-clause-rows
returns-in-Pair-clause-rows g c =
    let at = rw c.in-Pair.is at c.requires.place in
    let there = pair_there g.K0.ZvOrd.cmp g.K1.ZvOrd.cmp _ _ _ _ _ at in
    view_of (same_lists refl refl refl c.in_ok-old.ensures.ok
    (value_set (seen c.self.view_is c.self.invariant) _ _ _ there.0 c.pair_start-at.ensures _ there.1))
    ∙ sym (put_is g.met.K0.ZvOrd.total g.met.K1.ZvOrd.total _ _ _ _ (Pair _ _) at)

pub returns-in-Pair-clause-before : goal.returns-in-Pair-clause-before
returns-in-Pair-clause-before g c =
    ap Some (rw ((seen c.self.view_is c.self.invariant).values_are, c.pair_start-at.ensures) at c.in_ok-old.ensures.before)
    ∙ sym (find_is g.met.K0.ZvOrd.total g.met.K1.ZvOrd.total _ _ _ (Pair _ _) (rw c.in-Pair.is at c.requires.place))

pub returns-in-Pair-clause-stays : goal.returns-in-Pair-clause-stays
returns-in-Pair-clause-stays g c = rw (← c.self.view_is) (search rules)

pub returns-in-Pair-clause-refused : goal.returns-in-Pair-clause-refused
returns-in-Pair-clause-refused g c =
    let at = rw c.in-Pair.is at c.requires.place in
    let taken = rw ((seen c.self.view_is c.self.invariant).values_are, c.pair_start-at.ensures) at c.in_ok-old.ensures.refused in
    let found = find_is g.met.K0.ZvOrd.total g.met.K1.ZvOrd.total _ _ _ (Pair _ _) at in
    (fits_is g.met.K0.ZvOrd.total g.met.K1.ZvOrd.total _ _ _ (rule g) _ (Pair _ _) at ∙ taken, rw found refl)

pub returns-in_err-old-clause-refused : goal.returns-in_err-old-clause-refused
returns-in_err-old-clause-refused g c =
    let at = rw c.in-Pair.is at c.requires.place in
    rw (
      fits_is g.met.K0.ZvOrd.total g.met.K1.ZvOrd.total _ _ _ (rule g) (g.R.ZvArg.bytes c.args.value.now) (Pair _ _) at,
      find_is g.met.K0.ZvOrd.total
          g.met.K1.ZvOrd.total _ _ _ (Pair _ _) at,
    ) (search rules)

pub returns-in_err-reserve_for-clause-refused : goal.returns-in_err-reserve_for-clause-refused
returns-in_err-reserve_for-clause-refused g c =
    let none = find_is g.met.K0.ZvOrd.total g.met.K1.ZvOrd.total _ _ _ _ c.requires.place ∙ nothing_there c.args.self.now.rows _ c.in_default.not-Pair in
    rw none (search rules)

pub returns-clause-rows : goal.returns-clause-rows
returns-clause-rows g c = rw c.in_ok-reserve_for.ensures.same.rows at c.put_at.ensures.rows

pub returns-clause-before : goal.returns-clause-before
returns-clause-before g c = sym (find_is g.met.K0.ZvOrd.total g.met.K1.ZvOrd.total _ _ _ _ c.requires.place ∙ nothing_there c.args.self.now.rows _
    c.in_default.not-Pair)

pub returns-clause-refused : goal.returns-clause-refused
returns-clause-refused g c =
    let none = find_is g.met.K0.ZvOrd.total g.met.K1.ZvOrd.total _ _ _ _ c.requires.place ∙ nothing_there c.args.self.now.rows _ c.in_default.not-Pair in
    rw none (search rules)
