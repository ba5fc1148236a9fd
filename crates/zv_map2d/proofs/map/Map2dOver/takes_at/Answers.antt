use Rattle.zv_map2d.proofs.Common.{sym, ◌∙◌, arith, Rule, rule_of, Pair, InRow, NewRow}
use Rattle.zv_map2d.proofs.Places.{fits_is, pair_there}
use Rattle.zv_map2d.proofs.Seen.{pair_stands, seen}
use Rattle.zv_map2d.proofs.map.Map2dOver.takes_at.Given as given
use Rattle.zv_map2d.proofs.map.Map2dOver.takes_at.Goals as goal

abbrev rule : given.Over → Rule
rule g = rule_of g.C0.ZvContainer.takes_insert g.C1.ZvContainer.takes_insert g.D.ZvContainer.takes_insert g.D.ZvContainer.takes_replace

pub zvl_takes_replace-requires : goal.zvl_takes_replace-requires
zvl_takes_replace-requires g c =
    let there = pair_there g.K0.ZvOrd.cmp g.K1.ZvOrd.cmp _ _ _ _ _ (rw c.in-Pair.is at c.requires.place) in
    (pair_stands (seen c.self.view_is c.self.invariant) there.0 there.1 c.pair_start-at.ensures).1

pub returns-in-Pair : goal.returns-in-Pair
returns-in-Pair g c =
    let fits = fits_is g.met.K0.ZvOrd.total g.met.K1.ZvOrd.total _ _ _ (rule g) (g.R.ZvArg.bytes c.args.value.now) (Pair _ _)
    (rw c.in-Pair.is at c.requires.place) in
    grind (arith, fits, (seen c.self.view_is c.self.invariant).values_are)

pub returns-in-InRow : goal.returns-in-InRow
returns-in-InRow g c =
    c.takes_pair.ensures ∙ sym (fits_is g.met.K0.ZvOrd.total g.met.K1.ZvOrd.total _ _ _ (rule g) _ (InRow _ _) (rw c.in-InRow.is at c.requires.place))

pub returns-then-zvl_takes_insert : goal.returns-then-zvl_takes_insert
returns-then-zvl_takes_insert g c =
    let fits = fits_is g.met.K0.ZvOrd.total g.met.K1.ZvOrd.total _ _ (g.Q1.ZvArg.bytes c.args.key1.now) (rule g) (g.R.ZvArg.bytes c.args.value.now) (NewRow _)
    (rw c.in-NewRow.is at c.requires.place) in
    grind (arith, fits, (seen c.self.view_is c.self.invariant).firsts_are)

pub returns-else-zvl_takes_insert : goal.returns-else-zvl_takes_insert
returns-else-zvl_takes_insert g c =
    let fits = fits_is g.met.K0.ZvOrd.total g.met.K1.ZvOrd.total _ _ (g.Q1.ZvArg.bytes c.args.key1.now) (rule g) (g.R.ZvArg.bytes c.args.value.now) (NewRow _)
    (rw c.in-NewRow.is at c.requires.place) in
    grind (arith, fits, (seen c.self.view_is c.self.invariant).firsts_are)
